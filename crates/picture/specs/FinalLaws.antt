-- What the lent memory holds after 0, 6 or 7: contexts in range, limits of at most 189 (the source's clauses on every end).
use Rattle.std.specs.Prelude.{◌+◌, ◌*◌, ◌≤◌, ◌<◌, ◌≡◌, ◌&&◌}
use Rattle.numbers.specs.Words.{ℕ, zero, suc, arith, refl, sym, ◌∙◌, ap, subst, Bool, true, ⊎_elim, leb, lit≤, eq_or, both_left, leb-true, List, length, replicate}
use Rattle.reader.specs.ReadingLaws.{Bytes}
use Rattle.lent.specs.Memory.{Form, Columns, records_in, strength_width, strength_in, strength_at_of, strength_set, Memory, sizes_of, blank_of}
use Rattle.lent.specs.RecordsLaws.{record_zeros}
use Rattle.lent.specs.MacroblocksLaws.{strength_back, strength_other}
use Rattle.modes.specs.declared.answers.Kinds.{Kinds}
use Rattle.modes.specs.Modes.{kinds_of}
use Rattle.filter.specs.declared.strengths.Strength.{Strength}
use Rattle.filter.specs.Strengths.{strength_fine_of}
use Rattle.macroblock.specs.Macroblock.{Finished, Step, finished, no_modes, no_tokens}
use Rattle.tile.specs.Tile.{span_at_of, blocks_of}
use Rattle.tile.specs.PartitionsLaws.{part_bytes}
use Rattle.choices.specs.Choices.{Call, refusal_of}
use Rattle.picture.specs.Picture.{Picture, State, pictured_of, start_of, partition_of, step_at, next_of, run_of, picture_of, Shared, Live}
use Rattle.picture.specs.PictureLaws.{live_next, ends_at, room_at, partition_below, run_none, run_finished, run_no_modes, run_no_tokens}
use Rattle.picture.specs.CallLaws.{picture_good, shared_start, live_start}

abbrev pub Limits : List ℕ → Type 0
Limits mem = (i : ℕ) → (strength_at_of mem i).limit ≤ 189

pub record Final (form : Form) (m : Memory) : Type 0 where
  pub contexts : Columns form m.columns
  pub limits : Limits m.strengths

limits_set : (mem : List ℕ) (k : ℕ) (t : Strength) (c : Kinds) → k < records_in strength_width mem → strength_fine_of t ≡ true → Limits mem → Limits (strength_set mem k t c)
limits_set mem k t kinds h e l i = ⊎_elim
    (λ (c : i ≡ k).
    subst (λ (z : Strength). z.limit ≤ 189) (sym (ap (λ (j : ℕ). strength_at_of (strength_set mem k t kinds) j) c ∙ strength_back mem k t kinds h))
    (leb-true t.limit 189 (first (leb t.limit 189) (leb t.inner 63) (leb t.threshold 2) (leb t.inside 1) e)))
    (λ c. subst (λ (z : Strength). z.limit ≤ 189) (sym (strength_other mem k t kinds i c)) (l i))
    (eq_or i k)
  where
    first : (a b c d : Bool) → a && b && c && d ≡ true → a ≡ true
    first a b c d e = both_left a b (both_left (a && b) c (both_left (a && b && c) d e))

limits_blank : (n : ℕ) → Limits (replicate n 0)
limits_blank n i = subst (λ (z : Strength). z.limit ≤ 189) (sym (ap strength_in (record_zeros strength_width n i))) (lit≤ tt)

module _ (P : Picture) (s : Shared P) (a : Bytes P.first) (b : (q : ℕ) → q < P.count → Bytes (P.token q)) where
  pub run_final : (n k : ℕ) (S : State) → Live P S → Limits S.mem.strengths → k + n ≤ P.wide * P.high → Final P.form (run_of n P k S).mem
  run_final zero k S l m h = rw (run_none P k S) (record { contexts = l.contexts; limits = m })
  run_final (suc n) k S l m h = go (λ x. run_final n (k + 1) (next_of P k S x)) (step_at P k S) refl
    where
      below : k < P.wide * P.high
      below = omega arith

      go : ((x : Finished) → Live P (next_of P k S x) → Limits (next_of P k S x).mem.strengths → k + 1 + n ≤ P.wide * P.high → Final P.form (run_of n P (k + 1) (next_of P k S x)).mem)
          → (t : Step) → step_at P k S ≡ t → Final P.form (run_of (suc n) P k S).mem
      go rest (finished x) e =
          let z = ends_at P S k s l below a (b (partition_of P k) (partition_below P k below s.least)) x e in
          rw (run_finished n P k S x e)
          (rest x (live_next P S k s l below x z) (limits_set S.mem.strengths k x.strength (kinds_of x.modes) (room_at P S k s l below).strengths z.strength m) (omega arith))
      go rest no_modes e = rw (run_no_modes n P k S e) (record { contexts = l.contexts; limits = m })
      go rest no_tokens e = rw (run_no_tokens n P k S e) (record { contexts = l.contexts; limits = m })

module _ (t : Call) (m : Memory) (e : refusal_of t (sizes_of m) ≡ 0) (y : Bytes t.bytes) where
  pub picture_final : Final t.form (picture_of t m).mem
  picture_final =
      rw (picture_good t m (sym e) refl)
      (run_final (pictured_of t) (shared_start t m e) (part_bytes t.bytes t.tile.first y) (λ q h. part_bytes t.bytes (span_at_of t.tile q) y)
      (blocks_of t.tile.width t.tile.height) 0 (start_of t.bytes t.tile (blank_of m)) (live_start t m e y) (limits_blank (length m.strengths)) (omega arith))
