-- A picture and the same picture with both partitions written again: it reads its modes as the grammar of all modes does, and any two
-- partitions that answer its symbols make the same picture.
use Rattle.std.specs.Prelude.{◌+◌, ◌*◌, ◌/◌, ◌%◌, ◌≤◌, ◌<◌, ◌≡◌, ◌++◌}
use Rattle.numbers.specs.Words.{ℕ, zero, suc, arith, refl, sym, ◌∙◌, ap, subst, ⊎_elim, eq_or, List, [], length, get_or, set, replicate, get_or-replicate, length-replicate, length-set, get_or-set_other, get_or-set_same, Ok}
use Rattle.header.specs.declared.frame.Announced.{Announced}
use Rattle.header.specs.FrameLaws.{frame_announced}
use Rattle.lent.specs.Memory.{Memory, sizes_of, column_at, column_set}
use Rattle.lent.specs.ColumnsLaws.{column_back, column_other, column_empty}
use Rattle.macroblock.specs.Macroblock.{Finished, Step, finished, no_modes, no_tokens, step_of, end_of}
use Rattle.macroblock.specs.StepLaws.{step_done}
use Rattle.modes.specs.declared.contexts.Context.{Context}
use Rattle.modes.specs.Modes.{Macroblock, modes_of, bottom_of, right_of}
use Rattle.residual.specs.Residual.{Model}
use Rattle.picture.specs.Picture.{Picture, State, column_of, partition_of, planes_in, place_of, around_at, step_at, written, next_of, pictured_of, begun_of, run_of, picture_of, Live}
use Rattle.picture.specs.CallLaws.{picture_good, shared_start, live_start}
use Rattle.picture.specs.PictureLaws.{step_at_lem, column_below, partition_below, room_at, ends_at, run_none, run_finished, run_no_modes, run_no_tokens}
use Rattle.choices.specs.Choices.{Call, refusal_of, number_of, beside_of}
use Rattle.choices.specs.ChoicesLaws.{beside_left}
use Rattle.reader.specs.declared.boolean.Reader.{Reader}
use Rattle.reader.specs.Reading.{given, no_reader_of, Reading, run, CodedSymbol, trace, Answers}
use Rattle.reader.specs.ReadingLaws.{Bytes, run_done, run_then, recoded, retraced, answers_part, trace_then}
use Rattle.tile.specs.Tile.{blocks_of}
use Rattle.tile.specs.PartitionsLaws.{pick_below}
use Rattle.recode.specs.Recode.{first_of, modes_asked, token_grammar, read_by, tokens_from}
use Rattle.recode.specs.RecodeLaws.{Sound, read_by_lem, both_at_lem, tokens_finished, live_after, whole_not_modes, whole_not_tokens}
use Rattle.recode.specs.PassLaws.{whole_fine, sound_start, picture_whole}
use Rattle.recode_frame.specs.RecodeFrame.{left_of, modes_from, no_tops, all_modes}
use Rattle.recode_frame.specs.ModeCopies.{march_asks, march_none}

-- ---- the modes that a picture reads are those of the grammar
-- what the grammar has above and left is what the picture's state has
pub record Tops (P : Picture) (S : State) (tops : List (List ℕ)) (left : List ℕ) : Type 0 where
  pub tall : P.wide ≤ length tops
  pub above : (c : ℕ) → c < P.wide → get_or tops c [] ≡ (column_at P.form S.mem.columns c).modes
  pub aside : left ≡ S.left.modes

left_is : (c : ℕ) (l : Context) → left_of c l.modes ≡ (beside_of c l).modes
unfolding beside_of
left_is zero l = refl
left_is (suc c) l = ⊎_elim (λ (z : suc c ≡ 0). absurd (omega arith)) (λ z. ap (λ (x : Context). x.modes) (beside_left (suc c) l z)) (eq_or (suc c) 0)

module _ {P : Picture} (z : Sound P) (k : ℕ) (S : State) (l : Live P S) (h : k < P.wide * P.high) {tops : List (List ℕ)} {left : List ℕ} (t : Tops P S tops left) {x : Finished} (e : step_at P k S ≡ finished x) where
  abbrev asked : Reading Macroblock
  asked = modes_of P.frame.announced (get_or tops (k % P.wide) []) (left_of (k % P.wide) left)

  asked_is : asked ≡ modes_of P.frame.announced (around_at P S (column_of P k)).top.modes (around_at P S (column_of P k)).left.modes
  asked_is = λ i. modes_of P.frame.announced (t.above (column_of P k) (column_below P k h) i) ((ap (left_of (k % P.wide)) t.aside ∙ left_is (k % P.wide) S.left) i)

  asked_gives : run asked P.first S.reader ≡ given x.modes x.readers.first
  asked_gives = ap (λ (m : Reading Macroblock). run m P.first S.reader) asked_is ∙ (both_at_lem P k S e).modes

  tops_next : Tops P (next_of P k S x) (set tops (k % P.wide) (bottom_of x.modes.modes)) (right_of x.modes.modes)
  tops_next =
      let g = both_at_lem P k S e in
      let o = ends_at P S k z.shared l h z.first (z.tokens (partition_of P k) (partition_below P k h z.shared.least)) x e in
      let c : ℕ = column_of P k in
      let here : column_at P.form (column_set P.form S.mem.columns c x.top) c ≡ x.top = column_back P.form S.mem.columns c x.top (room_at P S k z.shared l h).columns o.top_sized o.top in
      let low : bottom_of x.modes.modes ≡ x.top.modes = ap (λ (y : Context). y.modes) (sym g.top) in
      record {
        tall = rw (length-set tops c (bottom_of x.modes.modes)) t.tall;
        above = λ j i.
            ⊎_elim
            (λ (s : j ≡ c).
            ap (λ (y : ℕ). get_or (set tops c (bottom_of x.modes.modes)) y []) s ∙ get_or-set_same tops c (bottom_of x.modes.modes) [] (omega (arith, column_below P k h, t.tall)) ∙ low
            ∙ sym (ap (λ (y : ℕ). (column_at P.form (column_set P.form S.mem.columns c x.top) y).modes) s ∙ ap (λ (y : Context). y.modes) here))
            (λ (s : j ≡ c → ⊥).
            get_or-set_other tops c j (bottom_of x.modes.modes) [] s ∙ t.above j i ∙ sym (ap (λ (y : Context). y.modes) (column_other P.form S.mem.columns c x.top j s)))
            (eq_or j c);
        aside = ap (λ (y : Context). y.modes) (sym g.left);
      }

  -- a whole run's modes are the grammar's, one macroblock after the other
  module _ (n : ℕ) where
    abbrev next : Reading (Unit {0})
    next = modes_from P.frame.announced P.wide n (k + 1) (set tops (k % P.wide) (bottom_of x.modes.modes)) (right_of x.modes.modes)

    pub modes_run_lem : run (modes_from P.frame.announced P.wide (suc n) k tops left) P.first S.reader ≡ run next P.first x.readers.first
    modes_run_lem =
        ap (λ (m : Reading (Unit {0})). run m P.first S.reader) (march_asks P.frame.announced P.wide n k tops left)
        ∙ run_then (λ m. modes_from P.frame.announced P.wide n (k + 1) (set tops (k % P.wide) (bottom_of m.modes)) (right_of m.modes)) P.first asked S.reader asked_gives

    pub modes_trace : trace (modes_from P.frame.announced P.wide (suc n) k tops left) P.first S.reader ≡ trace asked P.first S.reader ++ trace next P.first x.readers.first
    modes_trace =
        ap (λ (m : Reading (Unit {0})). trace m P.first S.reader) (march_asks P.frame.announced P.wide n k tops left)
        ∙ trace_then (λ m. modes_from P.frame.announced P.wide n (k + 1) (set tops (k % P.wide) (bottom_of m.modes)) (right_of m.modes)) P.first asked S.reader asked_gives

-- ---- both partitions written again
-- the picture that reads its modes from f and all its tokens from s
abbrev pub moved : Picture → (f s : List ℕ) → Picture
moved P f s = record { first = f; token = λ q. s; count = 1; frame = P.frame; table = P.table; wide = P.wide; high = P.high; form = P.form }

-- the same state, but for its two readers
pub record Beside (S T : State) (p q : Reader) : Type 0 where
  pub reader : T.reader ≡ p
  pub left : S.left ≡ T.left
  pub mem : S.mem ≡ T.mem
  pub eight : length T.readers ≡ 8
  pub token : get_or T.readers 0 no_reader_of ≡ q

module _ (P : Picture) (f s : List ℕ) (k : ℕ) (S T : State) (p q : Reader) (b : Beside S T p q) where
  zeroth : partition_of (moved P f s) k ≡ 0
  zeroth = omega (arith, pick_below (k / P.wide) 1 (omega arith))

  token_now : get_or T.readers (partition_of (moved P f s) k) no_reader_of ≡ q
  token_now = ap (λ (i : ℕ). get_or T.readers i no_reader_of) zeroth ∙ b.token

  record Again (x : Finished) (p2 q2 : Reader) : Type 0 where
    value : Finished
    makes : step_at (moved P f s) k T ≡ finished value
    next : Beside (next_of P k S x) (next_of (moved P f s) k T value) p2 q2
    reads : read_by (moved P f s) k T ≡ read_by P k S

  again : {x : Finished} {p2 q2 : Reader} → step_at P k S ≡ finished x
      → Answers f p (trace (modes_of P.frame.announced (around_at P S (column_of P k)).top.modes (around_at P S (column_of P k)).left.modes) P.first S.reader) p2 → Answers s q (read_by P k S) q2 → Again x p2 q2
  unfolding end_of
  again {x} {p2} {q2} e a1 a2 =
      let g = both_at_lem P k S e in
      let M : Reading Macroblock = modes_of P.frame.announced (around_at P S (column_of P k)).top.modes (around_at P S (column_of P k)).left.modes in
      let G : Reading Model = token_grammar P k S x.modes in
      let a3 : Answers s q (trace G (P.token (partition_of P k)) (get_or S.readers (partition_of P k) no_reader_of)) q2 = subst (λ (l : List CodedSymbol). Answers s q l q2) (read_by_lem P k S g.modes) a2 in
      let r1 : run M f p ≡ given x.modes p2 = recoded M P.first S.reader g.modes a1 in
      let r2 : run G s q ≡ given g.model q2 = recoded G (P.token (partition_of P k)) (get_or S.readers (partition_of P k) no_reader_of) g.coefficients a3 in
      let v : Finished = end_of P.frame (place_of P k) (planes_in S.mem) x.modes p2 g.model q2 in
      let st : step_at (moved P f s) k T ≡ finished v =
      step_at_lem (moved P f s) k T
      ∙ (λ i. step_of f s (record { first = b.reader i; token = token_now i }) P.frame P.table
      (record { top = (around_at P (record { reader = S.reader; readers = S.readers; left = S.left; mem = sym b.mem i }) (column_of P k)).top; left = beside_of (column_of P k) (sym b.left i) }) (place_of P k) (planes_in (sym b.mem i)))
      ∙ step_done f s (record { first = p; token = q }) P.frame P.table (around_at P S (column_of P k)) (place_of P k) (planes_in S.mem) x.modes p2 r1 r2 in
      let is : x ≡ end_of P.frame (place_of P k) (planes_in S.mem) x.modes x.readers.first g.model x.readers.token = g.is in
      record {
        value = v;
        makes = st;
        next = record {
          reader = refl;
          left = ap (λ (y : Finished). y.left) is;
          mem = ap (λ (y : Finished). written P.form k (column_of P k) S.mem y) is ∙ ap (λ (m : Memory). written P.form k (column_of P k) m v) b.mem;
          eight = length-set T.readers (partition_of (moved P f s) k) q2 ∙ b.eight;
          token = ap (λ (i : ℕ). get_or (set T.readers i q2) 0 no_reader_of) zeroth ∙ get_or-set_same T.readers 0 q2 no_reader_of (rw b.eight (omega arith));
        };
        reads = read_by_lem (moved P f s) k T ((λ i. modes_asked (moved P f s) k (record { reader = b.reader i; readers = T.readers; left = sym b.left i; mem = sym b.mem i })) ∙ r1)
            ∙ (λ i. trace (token_grammar P k (record { reader = S.reader; readers = S.readers; left = sym b.left i; mem = sym b.mem i }) x.modes) s (token_now i))
            ∙ retraced G (P.token (partition_of P k)) (get_or S.readers (partition_of P k) no_reader_of) g.coefficients a3
            ∙ sym (read_by_lem P k S g.modes);
      }

-- ---- all of them: THE LAW of a picture written again
-- it is the same, and reads the same token symbols
pub record MovedSame (n : ℕ) (P : Picture) (f s : List ℕ) (k : ℕ) (S T : State) : Type 0 where
  pub picture : run_of n (moved P f s) k T ≡ run_of n P k S
  pub tokens : tokens_from n (moved P f s) k T ≡ tokens_from n P k S

pub moved_same : {M : ℕ} {mem : Memory} (n : ℕ) (P : Picture) (f s : List ℕ) (k : ℕ) (S T : State) (p q p9 q9 : Reader) (tops : List (List ℕ)) (left : List ℕ) → Sound P → Live P S → k + n ≤ P.wide * P.high → Tops P S tops left → Beside S T p q
    → Answers f p (trace (modes_from P.frame.announced P.wide n k tops left) P.first S.reader) p9 → Answers s q (tokens_from n P k S) q9 → run_of n P k S ≡ record { answer = Ok M; mem = mem } → MovedSame n P f s k S T
unfolding tokens_from
moved_same zero P f s k S T p q p9 q9 tops left z l h t b a1 a2 e =
    record { picture = run_none (moved P f s) k T ∙ ap (λ (m : Memory). record { answer = Ok k; mem = m }) (sym b.mem) ∙ sym (run_none P k S); tokens = refl }
moved_same {M} {mem} (suc n) P f s k S T p q p9 q9 tops left z l h t b a1 a2 e = go (λ x y p2 q2 tops2 left2. moved_same n P f s (k + 1) (next_of P k S x) (next_of (moved P f s) k T y) p2 q2 p9 q9 tops2 left2 z) (step_at P k S) refl
  where
    go : ((x y : Finished) (p2 q2 : Reader) (tops2 : List (List ℕ)) (left2 : List ℕ) → Live P (next_of P k S x) → k + 1 + n ≤ P.wide * P.high → Tops P (next_of P k S x) tops2 left2 → Beside (next_of P k S x) (next_of (moved P f s) k T y) p2 q2
        → Answers f p2 (trace (modes_from P.frame.announced P.wide n (k + 1) tops2 left2) P.first x.readers.first) p9 → Answers s q2 (tokens_from n P (k + 1) (next_of P k S x)) q9 → run_of n P (k + 1) (next_of P k S x) ≡ record { answer = Ok M; mem = mem }
        → MovedSame n P f s (k + 1) (next_of P k S x) (next_of (moved P f s) k T y))
        → (x : Step) → step_at P k S ≡ x → MovedSame (suc n) P f s k S T
    go ih (finished x) g =
        let i : k < P.wide * P.high = omega arith in
        let ms = answers_part (trace (asked z k S l i t g) P.first S.reader) (subst (λ (y : List CodedSymbol). Answers f p y p9) (modes_trace z k S l i t g n) a1) in
        let ts = answers_part (read_by P k S) (subst (λ (y : List CodedSymbol). Answers s q y q9) (tokens_finished P k S n g) a2) in
        let w = again P f s k S T p q b g (subst (λ (m : Reading Macroblock). Answers f p (trace m P.first S.reader) ms.middle) (asked_is z k S l i t g) ms.before) ts.before in
        let o = ih x w.value ms.middle ts.middle (set tops (k % P.wide) (bottom_of x.modes.modes)) (right_of x.modes.modes) (live_after P k S z l i g) (omega arith) (tops_next z k S l i t g) w.next ms.after ts.after (sym (run_finished n P k S x g) ∙ e) in
        record {
          picture = run_finished n (moved P f s) k T w.value w.makes ∙ o.picture ∙ sym (run_finished n P k S x g);
          tokens = tokens_finished (moved P f s) k T n w.makes ∙ (λ i. w.reads i ++ o.tokens i) ∙ sym (tokens_finished P k S n g);
        }
    go ih no_modes g = absurd (whole_not_modes (sym (run_no_modes n P k S g) ∙ e))
    go ih no_tokens g = absurd (whole_not_tokens (sym (run_no_tokens n P k S g) ∙ e))

-- ---- a picture that ends whole has all its modes
pub record ModesGiven (n : ℕ) (P : Picture) (k : ℕ) (S : State) (tops : List (List ℕ)) (left : List ℕ) : Type 0 where
  pub last : Reader
  pub gives : run (modes_from P.frame.announced P.wide n k tops left) P.first S.reader ≡ given tt last

pub modes_given : {M : ℕ} {mem : Memory} (n : ℕ) (P : Picture) (k : ℕ) (S : State) (tops : List (List ℕ)) (left : List ℕ) → Sound P → Live P S → k + n ≤ P.wide * P.high → Tops P S tops left → run_of n P k S ≡ record { answer = Ok M; mem = mem } → ModesGiven n P k S tops left
modes_given zero P k S tops left z l h t e = record { last = S.reader; gives = ap (λ (m : Reading (Unit {0})). run m P.first S.reader) (march_none P.frame.announced P.wide k tops left) ∙ run_done tt P.first S.reader }
modes_given {M} {mem} (suc n) P k S tops left z l h t e = go (λ x tops2 left2. modes_given n P (k + 1) (next_of P k S x) tops2 left2 z) (step_at P k S) refl
  where
    go : ((x : Finished) (tops2 : List (List ℕ)) (left2 : List ℕ) → Live P (next_of P k S x) → k + 1 + n ≤ P.wide * P.high → Tops P (next_of P k S x) tops2 left2 → run_of n P (k + 1) (next_of P k S x) ≡ record { answer = Ok M; mem = mem } → ModesGiven n P (k + 1) (next_of P k S x) tops2 left2)
        → (x : Step) → step_at P k S ≡ x → ModesGiven (suc n) P k S tops left
    go ih (finished x) g =
        let i : k < P.wide * P.high = omega arith in
        let o = ih x (set tops (k % P.wide) (bottom_of x.modes.modes)) (right_of x.modes.modes) (live_after P k S z l i g) (omega arith) (tops_next z k S l i t g) (sym (run_finished n P k S x g) ∙ e) in
        record { last = o.last; gives = modes_run_lem z k S l i t g n ∙ o.gives }
    go ih no_modes g = absurd (whole_not_modes (sym (run_no_modes n P k S g) ∙ e))
    go ih no_tokens g = absurd (whole_not_tokens (sym (run_no_tokens n P k S g) ∙ e))

-- ---- a call that is answered 0
module _ (c : Call) (m : Memory) (f : refusal_of c (sizes_of m) ≡ 0) where
  pub tops_start : Tops (pictured_of c) (begun_of c m) no_tops (replicate 4 0)
  tops_start = record {
    tall = rw (length-replicate 1024 (replicate {A = ℕ} 4 0)) (shared_start c m f).wide;
    above = λ j i. get_or-replicate 1024 j (replicate 4 0) [] (omega (arith, (shared_start c m f).wide)) ∙ ap (λ (x : Context). x.modes) (sym (column_empty c.form (length m.columns) j));
    aside = refl;
  }

  -- its modes are those that the first partition is written with
  pub all_modes_lem : modes_from (pictured_of c).frame.announced (c.tile.width / 16) (blocks_of c.tile.width c.tile.height) 0 no_tops (replicate 4 0) ≡ all_modes c
  all_modes_lem = ap (λ (a : Announced). modes_from a (c.tile.width / 16) (blocks_of c.tile.width c.tile.height) 0 no_tops (replicate 4 0)) (frame_announced c.header)

pub record CallModes (c : Call) : Type 0 where
  pub last : Reader
  pub gives : run (all_modes c) (first_of c) c.tile.reader ≡ given tt last

pub call_modes : (c : Call) (m : Memory) → Bytes c.bytes → number_of (picture_of c m).answer ≡ 0 → CallModes c
call_modes c m y z =
    let w = (picture_whole c m z).same in
    let f = whole_fine c m w in
    let g = modes_given (blocks_of c.tile.width c.tile.height) (pictured_of c) 0 (begun_of c m) no_tops (replicate 4 0) (sound_start c m f y) (live_start c m f y) (omega arith) (tops_start c m f) (sym (picture_good c m refl f) ∙ w) in
    record { last = g.last; gives = ap (λ (x : Reading (Unit {0})). run x (first_of c) c.tile.reader) (sym (all_modes_lem c m f)) ∙ g.gives }
