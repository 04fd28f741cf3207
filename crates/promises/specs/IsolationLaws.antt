-- The proof of demand 3: `isolated`, at the end.
use Rattle.std.specs.Prelude.{◌+◌, ◌-◌, ◌*◌, ◌/◌, ◌≤◌, ◌<◌, ◌≡◌, ◌⊎◌}
use Rattle.numbers.specs.Words.{ℕ, zero, suc, div-lt_iff_lt-mul, le-div_iff_mul-le, mod-eq_of_lt, mul_comm, mul-le-mul_right, arith, refl, sym, ◌∙◌, ap, subst, inl, inr, ⊎_elim, lt_or, eq_or, List, get_or}
use Rattle.reader.specs.Reading.{no_reader_of}
use Rattle.reader.specs.ReadingLaws.{Bytes}
use Rattle.lent.specs.Memory.{mode_width, strength_width, column_at, Memory, sizes_of}
use Rattle.coefficients.specs.Block.{header_table}
use Rattle.header.specs.declared.frame.Frame.{Frame}
use Rattle.header.specs.Frame.{frame_of}
use Rattle.tile.specs.Tile.{readers_of}
use Rattle.tile.specs.PartitionsLaws.{readers_same, readers_length, pick_some, pick_below}
use Rattle.choices.specs.Choices.{Call, values_of}
use Rattle.choices.specs.ChoicesLaws.{fine_side, fine_count}
use Rattle.picture.specs.Picture.{Picture, State, Ended, pictured_of, begun_of, row_of, partition_of, run_of, picture_of}
use Rattle.promises.specs.Refusals.{Fine, fine_is, blank_same, sizes_same}
use Rattle.promises.specs.Reached.{Reached}
use Rattle.promises.specs.ReachedLaws.{values_from, ending, last, reached_before}
use Rattle.promises.specs.Stops.{macroblocks}
use Rattle.promises.specs.Places.{Plane, plane_side, sample_of, mode_byte, strength_byte}
use Rattle.promises.specs.KeptLaws.{Sound, sound, Keeps, keeps_sample, keeps_mode, keeps_strength, rest_keeps}
use Rattle.promises.specs.TwoModes.{Moded, same_modes}
use Rattle.promises.specs.TwoRuns.{Twins, Same, Split, alike, past, split, all_alike}
use Rattle.promises.specs.Isolation.{SameTokens, Alike, Stopped, Isolated}

-- ---- what macroblocks from row p on leave alone: the rows above
module _ {P : Picture} {S₀ : State} (z : Sound P S₀) (p k : ℕ) (g : p * P.wide ≤ k) (h : k < P.wide * P.high) where
  some_wide : (w : ℕ) → k < w * P.high → 0 < w
  some_wide zero l = absurd (omega arith)
  some_wide (suc w) l = omega arith

  rows_kept : (a : Plane) (c r : ℕ) → c < P.wide * plane_side a → r < p * plane_side a → Keeps P (sample_of P.wide a c r) k
  rows_kept a c r l o =
      let q : p ≤ row_of P k = (le-div_iff_mul-le (some_wide P.wide h)).1 g in
      keeps_sample z k h a c r l (inr (inl (omega (arith, mul-le-mul_right {m = p} {n = row_of P k} (plane_side a) q))))

  modes_kept : (i : ℕ) → i < p * P.wide * mode_width → Keeps P (mode_byte i) k
  modes_kept i l = keeps_mode z k h i (inl (omega arith))

  strengths_kept : (i : ℕ) → i < p * P.wide * strength_width → Keeps P (strength_byte i) k
  strengths_kept i l = keeps_strength z k h i (inl (omega arith))

-- ---- two calls
module _ (p : ℕ) (t u : Call) (m n : Memory) (a : Alike p t u) (e : Fine t m) (f : Fine u n) where
  few : t.tile.count ≤ 8
  few = (fine_count t (sizes_of m) e).most

  some : 1 ≤ t.tile.count
  some = (fine_count t (sizes_of m) e).least

  module _ (U : ℕ → Type 0) (below : (q : ℕ) → U q → q < t.tile.count) (same : (q : ℕ) → U q → SameTokens t u q) where
    pub twins : Twins U (pictured_of t) (pictured_of u)
    twins = record {
      first = a.first;
      count = a.count;
      few = few;
      frame = ap frame_of a.header;
      table = ap header_table a.header;
      wide = ap (λ (w : ℕ). w / 16) a.width;
      form = a.form;
      token = same;
    }

    reader_same : (q : ℕ) → U q → get_or (readers_of t.bytes t.tile) q no_reader_of ≡ get_or (readers_of u.bytes u.tile) q no_reader_of
    reader_same q h =
        let l = below q h in
        readers_same t.bytes u.bytes t.tile u.tile q no_reader_of (omega (arith, few)) l (rw a.count at l) (same q h)

    pub start_same : Same U (begun_of t m) (begun_of u n)
    start_same = record {
      reader = a.reader;
      eight = readers_length t.bytes t.tile;
      eight' = readers_length u.bytes u.tile;
      readers = reader_same;
      left = refl;
      mem = blank_same m n (sizes_same t u m n a.form a.width a.height e f);
    }

  -- the call of the second tile, as many macroblocks as the first has
  second_is : picture_of u n ≡ run_of (macroblocks t) (pictured_of u) 0 (begun_of u n)
  second_is =
      let g : run_of (macroblocks t) (pictured_of u) 0 (begun_of u n) ≡ run_of (macroblocks u) (pictured_of u) 0 (begun_of u n) = λ i. run_of (a.width i / 16 * (a.height i / 16)) (pictured_of u) 0 (begun_of u n) in
      fine_is u n f ∙ sym g

  pub inside : (k : ℕ) → partition_of (pictured_of t) k < t.tile.count
  inside k = pick_below (row_of (pictured_of t) k) t.tile.count some

  -- every partition that is read is the same
  all_same : ((q : ℕ) → q < t.tile.count → SameTokens t u q) → picture_of t m ≡ picture_of u n
  all_same s =
      let U : ℕ → Type 0 = λ q. q < t.tile.count in
      fine_is t m e
      ∙ all_alike (twins U (λ q h. h) s) (macroblocks t) (λ k h. inside k) (λ k h. inside k) (start_same U (λ q h. h) s) (macroblocks t) (omega arith)
      ∙ sym second_is

  -- ---- the rows above row p
  wide_some : 0 < t.tile.width / 16
  wide_some = omega (arith, (fine_side t (sizes_of m) e).width.least)

  -- partitions below the count that are not p
  abbrev pub Rest : ℕ → Type 0
  Rest q = (q < t.tile.count) × (q ≡ p → ⊥)

  module _ (h : p < t.tile.count) where
    -- above row p no macroblock reads partition p
    pub apart : (k : ℕ) → k < p * (t.tile.width / 16) → partition_of (pictured_of t) k ≡ p → ⊥
    apart k l z =
        let r : row_of (pictured_of t) k < p = (div-lt_iff_lt-mul wide_some).1 l in
        let o : partition_of (pictured_of t) k ≡ row_of (pictured_of t) k = sym (pick_some (row_of (pictured_of t) k) t.tile.count (λ n. omega (arith, some))) ∙ mod-eq_of_lt (omega arith) in
        omega arith

    abbrev both : Type 0
    both = Split (twins Rest (λ q r. r.0) (λ q r. a.tokens q r.0 r.1)) (p * (t.tile.width / 16)) (λ k l. (inside k, apart k l)) (λ k l. inside k) (start_same Rest (λ q r. r.0) (λ q r. a.tokens q r.0 r.1)) (macroblocks t)

    two : both
    two = split (twins Rest (λ q r. r.0) (λ q r. a.tokens q r.0 r.1)) (p * (t.tile.width / 16)) (λ k l. (inside k, apart k l)) (λ k l. inside k) (start_same Rest (λ q r. r.0) (λ q r. a.tokens q r.0 r.1)) (macroblocks t)

    -- both end alike, or both come to row p with the same memory
    by_split : (C : Type 0) → (picture_of t m ≡ picture_of u n → C)
        → ((S T : State) → p * (t.tile.width / 16) < macroblocks t → Reached (pictured_of t) (begun_of t m) (p * (t.tile.width / 16)) S → Reached (pictured_of u) (begun_of u n) (p * (t.tile.width / 16)) T → S.mem ≡ T.mem → C) → C
    by_split C x y = go two
      where
        go : both → C
        go (alike g) = x (fine_is t m e ∙ g ∙ sym second_is)
        go (past {S} {T} l r q s) = y S T l r q s.mem

    -- what the macroblocks from row p on leave alone is the same in both
    module _ (z : Sound (pictured_of t) (begun_of t m)) (y : Sound (pictured_of u) (begun_of u n)) where
      cell_same : (g : ℕ → Memory → ℕ)
          → ((k : ℕ) → p * (t.tile.width / 16) ≤ k → k < macroblocks t → Keeps (pictured_of t) (g (t.tile.width / 16)) k)
          → ((k : ℕ) → p * (u.tile.width / 16) ≤ k → k < macroblocks u → Keeps (pictured_of u) (g (u.tile.width / 16)) k)
          → g (t.tile.width / 16) (picture_of t m).mem ≡ g (t.tile.width / 16) (picture_of u n).mem
      cell_same g v w =
          by_split (g (t.tile.width / 16) (picture_of t m).mem ≡ g (t.tile.width / 16) (picture_of u n).mem) (ap (λ (E : Ended). g (t.tile.width / 16) E.mem))
          (λ S T l r q s.
          let wide : t.tile.width / 16 ≡ u.tile.width / 16 = ap (λ (w : ℕ). w / 16) a.width in
          let l' : p * (u.tile.width / 16) ≤ macroblocks u = subst (λ (x : ℕ). p * (x / 16) ≤ x / 16 * (u.tile.height / 16)) a.width (subst (λ (x : ℕ). p * (t.tile.width / 16) ≤ t.tile.width / 16 * (x / 16)) a.height (omega arith)) in
          let q' : Reached (pictured_of u) (begun_of u n) (p * (u.tile.width / 16)) T = subst (λ (w : ℕ). Reached (pictured_of u) (begun_of u n) (p * w) T) wide q in
          ap (λ (E : Ended). g (t.tile.width / 16) E.mem) (fine_is t m e)
          ∙ rest_keeps z (g (t.tile.width / 16)) (omega arith) r v
          ∙ ap (g (t.tile.width / 16)) s
          ∙ ap (λ (w : ℕ). g w T.mem) wide
          ∙ sym (rest_keeps y (g (u.tile.width / 16)) l' q' w)
          ∙ sym (ap (λ (E : Ended). g (u.tile.width / 16) E.mem) (fine_is u n f))
          ∙ ap (λ (w : ℕ). g w (picture_of u n).mem) (sym wide))

    -- where one stops above row p, both end alike
    stopped_first : (number k : ℕ) → k < p * (t.tile.width / 16) → Stopped (picture_of t m) number k → Stopped (picture_of u n) number k
    stopped_first number k l o =
        by_split (Stopped (picture_of u n) number k) (λ g. subst (λ (E : Ended). Stopped E number k) g o)
        (λ S T i r q s.
        let v : p * (t.tile.width / 16) ≤ values_of (picture_of t m).answer = rw (fine_is t m e) (values_from (macroblocks t) (omega arith) r) in
        absurd (omega (arith, o.1)))

    stopped_second : (number k : ℕ) → k < p * (t.tile.width / 16) → Stopped (picture_of u n) number k → Stopped (picture_of t m) number k
    stopped_second number k l o =
        by_split (Stopped (picture_of t m) number k) (λ g. subst (λ (E : Ended). Stopped E number k) (sym g) o)
        (λ S T i r q s.
        let v : p * (t.tile.width / 16) ≤ values_of (picture_of u n).answer = rw second_is (values_from (macroblocks t) (omega arith) q) in
        absurd (omega (arith, o.1)))

    -- no row p: the rows above are all
    rows_all : t.tile.height / 16 ≤ p → picture_of t m ≡ picture_of u n
    rows_all l =
        by_split (picture_of t m ≡ picture_of u n) (λ g. g)
        (λ S T i r q s. absurd (omega (arith, mul-le-mul_right {m = t.tile.height / 16} {n = p} (t.tile.width / 16) l, mul_comm (t.tile.width / 16) (t.tile.height / 16))))

  -- ---- p below the count, or not
  past_count : t.tile.count ≤ p → picture_of t m ≡ picture_of u n
  past_count h = all_same (λ q l. a.tokens q l (λ z. omega arith))

  by_count : (C : Type 0) → (p < t.tile.count → C) → (picture_of t m ≡ picture_of u n → C) → C
  by_count C x y = ⊎_elim x (λ h. y (past_count h)) (lt_or p t.tile.count)

  nothing_differs : SameTokens t u p → picture_of t m ≡ picture_of u n
  nothing_differs s = all_same (λ q l. ⊎_elim (λ (z : q ≡ p). subst (SameTokens t u) (sym z) s) (λ z. a.tokens q l z) (eq_or q p))

  -- ---- modes: what is finished in both
  module _ (z : Sound (pictured_of t) (begun_of t m)) (y : Sound (pictured_of u) (begun_of u n)) where
    shared : Twins Rest (pictured_of t) (pictured_of u)
    shared = twins Rest (λ q r. r.0) (λ q r. a.tokens q r.0 r.1)

    blank : (begun_of t m).mem ≡ (begun_of u n).mem
    blank = blank_same m n (sizes_same t u m n a.form a.width a.height e f)

    start_modes : Moded t.form u.form (t.tile.width / 16) (begun_of t m) (begun_of u n)
    start_modes = record { reader = a.reader; left = refl; above = λ c h i. (column_at (a.form i) (blank i).columns c).modes; modes = ap (λ (b : Memory). b.modes) blank }

    kinds_same : (k i : ℕ) → k < values_of (picture_of t m).answer → k < values_of (picture_of u n).answer → i < mode_width
        → mode_byte (k * mode_width + i) (picture_of t m).mem ≡ mode_byte (k * mode_width + i) (picture_of u n).mem
    kinds_same k i h l o =
        let h' : k < values_of (run_of (macroblocks t) (pictured_of t) 0 (begun_of t m)).answer = rw (fine_is t m e) at h in
        let l' : k < values_of (run_of (macroblocks u) (pictured_of u) 0 (begun_of u n)).answer = rw (fine_is u n f) at l in
        let b = last (ending (pictured_of t) (begun_of t m) (macroblocks t)) in
        let c = last (ending (pictured_of u) (begun_of u n) (macroblocks u)) in
        let r = reached_before (suc k) (omega arith) b.reached in
        let q = reached_before (suc k) (omega arith) c.reached in
        let some : suc k ≤ macroblocks t = omega (arith, b.upto) in
        let few : suc k ≤ macroblocks u = omega (arith, c.upto) in
        let d = same_modes z y shared.first (ap (λ (f : Frame). f.announced) shared.frame) shared.wide (ap (λ (x : ℕ). x / 16) a.height) start_modes some r.reached q.reached in
        ap (λ (E : Ended). mode_byte (k * mode_width + i) E.mem) (fine_is t m e)
        ∙ rest_keeps z (mode_byte (k * mode_width + i)) some r.reached (λ j g v. keeps_mode z j v (k * mode_width + i) (inl (omega arith)))
        ∙ ap (λ (x : List ℕ). get_or x (k * mode_width + i) 0) d.modes
        ∙ sym (rest_keeps y (mode_byte (k * mode_width + i)) few q.reached (λ j g v. keeps_mode y j v (k * mode_width + i) (inl (omega arith))))
        ∙ sym (ap (λ (E : Ended). mode_byte (k * mode_width + i) E.mem) (fine_is u n f))

  pub both_calls : Bytes t.bytes → Bytes u.bytes → Isolated p t u m n
  both_calls b d =
      let z = sound t m b e in
      let y = sound u n d f in
      record {
        samples = λ o c r h l. by_count _
            (λ g. cell_same g z y (λ w. sample_of w o c r) (λ k i j. rows_kept z p k i j o c r h l) (λ k i j. rows_kept y p k i j o c r (subst (λ (w : ℕ). c < w / 16 * plane_side o) a.width h) l))
            (ap (λ (E : Ended). sample_of (t.tile.width / 16) o c r E.mem));
        modes = λ i h. by_count _
            (λ g. cell_same g z y (λ w. mode_byte i) (λ k v j. modes_kept z p k v j i h) (λ k v j. modes_kept y p k v j i (subst (λ (w : ℕ). i < p * (w / 16) * mode_width) a.width h)))
            (ap (λ (E : Ended). mode_byte i E.mem));
        strengths = λ i h. by_count _
            (λ g. cell_same g z y (λ w. strength_byte i) (λ k v j. strengths_kept z p k v j i h) (λ k v j. strengths_kept y p k v j i (subst (λ (w : ℕ). i < p * (w / 16) * strength_width) a.width h)))
            (ap (λ (E : Ended). strength_byte i E.mem));
        stops = λ number k h o. by_count _ (λ g. stopped_first g number k h o) (λ g. subst (λ (E : Ended). Stopped E number k) g o);
        stops_too = λ number k h o. by_count _ (λ g. stopped_second g number k h o) (λ g. subst (λ (E : Ended). Stopped E number k) (sym g) o);
        kinds = kinds_same z y;
        no_row = λ h. by_count _ (λ g. rows_all g h) (λ g. g);
        no_difference = nothing_differs;
        ignored = past_count;
      }
