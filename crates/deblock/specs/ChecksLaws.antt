-- What the checks of the call say: which number each gives, and what is known past all.
use Rattle.std.specs.Prelude.{◌+◌, ◌*◌, ◌/◌, ◌≤◌, ◌<◌, ◌≡◌, ◌&&◌}
use Rattle.numbers.specs.Words.{ℕ, zero, suc, add-one, arith, refl, sym, ◌∙◌, ap, ap₂, Bool, true, false, cond, inl, inr, leb, not_so, both_left, both_right, both_true, le-leb, leb-true, List, length, all_below, all_below_lem, Result, Ok, Err}
use Rattle.filter.specs.declared.strengths.Strength.{Strength}
use Rattle.tile.specs.Tile.{sides_of, Sides}
use Rattle.tile.specs.ChecksLaws.{sides_fact, sides_test}
use Rattle.lent.specs.Memory.{records_in, strength_width, strength_at_of, luma_fine_of, chroma_fine_of, strengths_fine_of}
use Rattle.lent.specs.SizesLaws.{long_fact, long_test, luma_area, chroma_area}
use Rattle.deblock.specs.declared.checks.DeblockError.{DeblockError}
use Rattle.deblock.specs.declared.checks.DeblockError.TheVariants as E
use Rattle.deblock.specs.Deblock.{deblock_lengths, DeblockLengths, limits_of, deblock_checked, deblock_refusal, DeblockAnswer, when, raster_of, planes_deblocked, deblock_of, deblock_number_of}
use Rattle.macroblock.specs.Macroblock.{Planes}
use Rattle.deblock.specs.Located.{Beside, WholePlane}

pub lengths : (w h y u v s : ℕ) → deblock_lengths w h y u v s ≡ true → DeblockLengths w h y u v s
unfolding deblock_lengths
lengths w h y u v s e =
    let a = luma_fine_of w h y in
    let b = chroma_fine_of w h u in
    let c = chroma_fine_of w h v in
    let d = strengths_fine_of w h s in
    let f = both_left (a && b && c) d e in
    let g = both_left (a && b) c f in
    record { luma = long_fact w h y (both_left a b g); blue = long_fact w h u (both_right a b g); red = long_fact w h v (both_right (a && b) c f); records = long_fact w h s (both_right (a && b && c) d e) }

pub limits : (s : List ℕ) → limits_of s ≡ true → (k : ℕ) → k < records_in strength_width s → (strength_at_of s k).limit ≤ 189
unfolding limits_of
limits s e k h = leb-true (strength_at_of s k).limit 189 (all_below_lem (λ (i : ℕ). leb (strength_at_of s i).limit 189) (records_in strength_width s) e k h)

-- as a loop tries them, one more
pub limits_next : (s : List ℕ) (k : ℕ) {t : Strength} {b : Bool} → t ≡ strength_at_of s k → b ≡ all_below k (λ (i : ℕ). leb (strength_at_of s i).limit 189) → leb t.limit 189 && b ≡ all_below (k + 1) (λ (i : ℕ). leb (strength_at_of s i).limit 189)
limits_next s k e f = ap₂ ◌&&◌ (ap (λ (x : Strength). leb x.limit 189) e) f ∙ rw add-one

module _ (w h y u v : ℕ) (s : List ℕ) where
  pub stop_side : sides_of w h ≡ false → 1 ≡ deblock_refusal w h y u v s
  unfolding deblock_refusal deblock_checked
  stop_side a = rw a

  module _ (a : sides_of w h ≡ true) where
    pub stop_lengths : deblock_lengths w h y u v (length s) ≡ false → 4 ≡ deblock_refusal w h y u v s
    unfolding deblock_refusal deblock_checked
    stop_lengths b = rw (a, b)

    module _ (b : deblock_lengths w h y u v (length s) ≡ true) where
      pub stop_limits : limits_of s ≡ false → 11 ≡ deblock_refusal w h y u v s
      unfolding deblock_refusal deblock_checked
      stop_limits c = rw (a, b, c)

      pub stop_none : limits_of s ≡ true → 0 ≡ deblock_refusal w h y u v s
      unfolding deblock_refusal deblock_checked
      stop_none c = rw (a, b, c)

-- ---- past all checks
pub record Fine (w h y u v : ℕ) (s : List ℕ) : Type 0 where
  pub sides : Sides w h
  pub lengths : DeblockLengths w h y u v (length s)
  pub limits : (k : ℕ) → k < records_in strength_width s → (strength_at_of s k).limit ≤ 189

three : (a b c : Bool) → 0 ≡ deblock_number_of (cond a (cond b (cond c (Ok tt) (Err E.Limit)) (Err E.Lengths)) (Err E.Sides)) → (a ≡ true) × (b ≡ true) × (c ≡ true)
three true true true e = (refl, refl, refl)
three true true false e = absurd (omega arith)
three true false c e = absurd (omega arith)
three false b c e = absurd (omega arith)

pub fine : (w h y u v : ℕ) (s : List ℕ) → 0 ≡ deblock_refusal w h y u v s → Fine w h y u v s
unfolding deblock_refusal deblock_checked
fine w h y u v s e =
    let t = three (sides_of w h) (deblock_lengths w h y u v (length s)) (limits_of s) e in
    record { sides = sides_fact w h t.0; lengths = lengths w h y u v (length s) t.1; limits = limits s t.2 }

-- as the code finds it
pub checked_fine : (w h y u v : ℕ) (s : List ℕ) {d : Unit} → Ok d ≡ deblock_checked w h y u v s → Fine w h y u v s
unfolding deblock_refusal
checked_fine w h y u v s e = fine w h y u v s (ap (λ r. deblock_number_of r) e)

-- and the other way: good arguments are not refused
all_true : (f : ℕ → Bool) (n : ℕ) → ((k : ℕ) → k < n → f k ≡ true) → all_below n f ≡ true
all_true f zero h = refl
all_true f (suc n) h = both_true (h n (omega arith)) (all_true f n (λ k l. h k (omega arith)))

lengths_test : (w h y u v s : ℕ) → Sides w h → DeblockLengths w h y u v s → deblock_lengths w h y u v s ≡ true
unfolding deblock_lengths
lengths_test w h y u v s z l =
    both_true (both_true (both_true (long_test w h y z l.luma) (long_test w h u z l.blue)) (long_test w h v z l.red)) (long_test w h s z l.records)

limits_test : (s : List ℕ) → ((k : ℕ) → k < records_in strength_width s → (strength_at_of s k).limit ≤ 189) → limits_of s ≡ true
unfolding limits_of
limits_test s h = all_true _ (records_in strength_width s) (λ k l. le-leb (strength_at_of s k).limit 189 (h k l))

pub fine_none : (w h y u v : ℕ) (s : List ℕ) → Fine w h y u v s → 0 ≡ deblock_refusal w h y u v s
fine_none w h y u v s f =
    stop_none w h y u v s (sides_test w h f.sides) (lengths_test w h y u v (length s) f.sides f.lengths) (limits_test s f.limits)

-- each number, where its check fails and those before it pass
module _ (w h y u v : ℕ) (s : List ℕ) where
  pub refused_side : (Sides w h → ⊥) → 1 ≡ deblock_refusal w h y u v s
  refused_side n = stop_side w h y u v s (sym (not_so _ (λ e. n (sides_fact w h e))))

  module _ (a : Sides w h) where
    pub refused_lengths : (DeblockLengths w h y u v (length s) → ⊥) → 4 ≡ deblock_refusal w h y u v s
    refused_lengths n = stop_lengths w h y u v s (sides_test w h a) (sym (not_so _ (λ e. n (lengths w h y u v (length s) e))))

    pub refused_limit : DeblockLengths w h y u v (length s) → (k : ℕ) → k < records_in strength_width s → 189 < (strength_at_of s k).limit → 11 ≡ deblock_refusal w h y u v s
    refused_limit l k i n =
        stop_limits w h y u v s (sides_test w h a) (lengths_test w h y u v (length s) a l) (sym (not_so _ (λ e. omega (arith, limits s e k i))))

module _ {w h y u v : ℕ} {s : List ℕ} (f : Fine w h y u v s) where
  below : (k : ℕ) → k < w / 16 * (h / 16) → (strength_at_of s k).limit ≤ 189
  below k l = f.limits k (omega (arith, f.lengths.records))

  pub luma_whole : WholePlane y 16 (w / 16) (h / 16) s
  luma_whole =
      let z : y ≡ h / 16 * 16 * (w / 16 * 16) = f.lengths.luma ∙ luma_area f.sides in
      record { grid = record { size = inr refl; across = omega (arith, f.sides.width.most); down = omega (arith, f.sides.height.most); area = omega (arith, z) }; long = f.lengths.records; limits = below }

  chroma_whole : (q : ℕ) → q ≡ w / 2 * (h / 2) → WholePlane q 8 (w / 16) (h / 16) s
  chroma_whole q e =
      let z : q ≡ h / 16 * 8 * (w / 16 * 8) = e ∙ chroma_area f.sides in
      record { grid = record { size = inl refl; across = omega (arith, f.sides.width.most); down = omega (arith, f.sides.height.most); area = omega (arith, z) }; long = f.lengths.records; limits = below }

  pub blue_whole : WholePlane u 8 (w / 16) (h / 16) s
  blue_whole = chroma_whole u f.lengths.blue

  pub red_whole : WholePlane v 8 (w / 16) (h / 16) s
  red_whole = chroma_whole v f.lengths.red

  -- red goes beside blue
  pub chroma_beside : Beside 8 u v
  chroma_beside = record { size = inl refl; two = λ e. f.lengths.red ∙ sym f.lengths.blue; one = λ e. absurd (omega arith) }

-- and an empty plane beside luma
pub luma_beside : (y : ℕ) → Beside 16 y 0
luma_beside y = record { size = inr refl; two = λ e. absurd (omega arith); one = λ e. refl }

-- ---- the call: refused, done in the simple kind, done in the other
module _ (m : Planes) (s : List ℕ) (w h : ℕ) (simple : Bool) where
  abbrev check : Result Unit DeblockError
  check = deblock_checked w h (length m.y) (length m.u) (length m.v) s

  abbrev bad : ℕ
  bad = deblock_refusal w h (length m.y) (length m.u) (length m.v) s

  pub deblock_refused : (e : DeblockError) → check ≡ Err e → deblock_of m s w h simple ≡ record { answer = Err e; planes = m }
  unfolding deblock_of
  deblock_refused e f = rw (f, deblock_of)

  pub refused : {e : DeblockError} → Err e ≡ check → ◌≡◌ {A = DeblockAnswer} (record { answer = Err e; planes = m }) (deblock_of m s w h simple)
  refused {e} f = sym (deblock_refused e (sym f))

  pub checked_done : {d : Unit} {p : Planes} → Ok d ≡ check → p ≡ planes_deblocked simple s (w / 16) (h / 16) m → ◌≡◌ {A = DeblockAnswer} (record { answer = Ok tt; planes = p }) (deblock_of m s w h simple)
  unfolding deblock_of
  checked_done e f = rw (f, ← e, deblock_of)

  -- nothing is refused where the number is 0
  pub checked_none : 0 ≡ bad → Ok tt ≡ check
  unfolding deblock_refusal
  checked_none z = go check z
    where
      go : (r : Result Unit DeblockError) → 0 ≡ deblock_number_of r → Ok tt ≡ r
      go (Ok d) e = refl
      go (Err E.Sides) e = absurd (omega arith)
      go (Err E.Lengths) e = absurd (omega arith)
      go (Err E.Limit) e = absurd (omega arith)

  pub done : {p : Planes} → 0 ≡ bad → p ≡ planes_deblocked simple s (w / 16) (h / 16) m → ◌≡◌ {A = DeblockAnswer} (record { answer = Ok tt; planes = p }) (deblock_of m s w h simple)
  done e f = checked_done (checked_none e) f

  -- its number, and that a refusal changes nothing
  pub deblock_number : bad ≡ deblock_number_of (deblock_of m s w h simple).answer
  unfolding deblock_refusal
  deblock_number = go check refl
    where
      go : (r : Result Unit DeblockError) → check ≡ r → deblock_number_of r ≡ deblock_number_of (deblock_of m s w h simple).answer
      go (Ok d) e = ap (λ (o : DeblockAnswer). deblock_number_of o.answer) (checked_done (sym e) refl)
      go (Err k) e = ap (λ (o : DeblockAnswer). deblock_number_of o.answer) (sym (deblock_refused k e))

  pub deblock_unchanged : (bad ≡ 0 → ⊥) → (deblock_of m s w h simple).planes ≡ m
  unfolding deblock_refusal
  deblock_unchanged z = go check refl
    where
      go : (r : Result Unit DeblockError) → check ≡ r → (deblock_of m s w h simple).planes ≡ m
      go (Ok d) e = absurd (z (ap (λ (r : Result Unit DeblockError). deblock_number_of r) e))
      go (Err k) e = ap (λ (o : DeblockAnswer). o.planes) (deblock_refused k e)

  pub picture_simple : {y : List ℕ} → simple ≡ true → y ≡ raster_of simple s 16 (w / 16) (w / 16 * (h / 16)) m.y → ◌≡◌ {A = Planes} (record { y = y; u = m.u; v = m.v }) (planes_deblocked simple s (w / 16) (h / 16) m)
  unfolding planes_deblocked when
  picture_simple e f = rw (f, e)

  pub picture_normal : {y u v : List ℕ} → simple ≡ false → y ≡ raster_of simple s 16 (w / 16) (w / 16 * (h / 16)) m.y → u ≡ raster_of simple s 8 (w / 16) (w / 16 * (h / 16)) m.u → v ≡ raster_of simple s 8 (w / 16) (w / 16 * (h / 16)) m.v
      → ◌≡◌ {A = Planes} (record { y = y; u = u; v = v }) (planes_deblocked simple s (w / 16) (h / 16) m)
  unfolding planes_deblocked when
  picture_normal e f g k = rw (f, g, k, e)
