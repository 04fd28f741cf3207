-- The proofs of what is promised of strength records (request M-106): `same_kinds` and `kinds_ignored`.
use Rattle.std.specs.Prelude.{◌+◌, ◌*◌, ◌<◌, ◌≡◌}
use Rattle.numbers.specs.Words.{ℕ, arith, sym, ◌∙◌, Bool, ⊎_elim, lit<, lt_or, List, get_or}
use Rattle.reader.specs.ReadingLaws.{Bytes}
use Rattle.lent.specs.Memory.{record_at, mode_width, strength_width, strength_at_of, Memory}
use Rattle.lent.specs.RecordsLaws.{record_byte}
use Rattle.macroblock.specs.Macroblock.{Planes}
use Rattle.choices.specs.Choices.{Call}
use Rattle.picture.specs.Picture.{picture_of}
use Rattle.deblock.specs.Deblock.{deblock_of}
use Rattle.deblock.specs.LocalLaws.{deblock_same}
use Rattle.promises.specs.Refusals.{Fine}
use Rattle.promises.specs.Grey.{done}
use Rattle.promises.specs.GreyLaws.{finished_or_grey}
use Rattle.promises.specs.Segments.{SameKinds, SameStrengths}

-- THE TWO NEW BYTES, after 0, 6 and 7
pub same_kinds : (t : Call) (m : Memory) → Bytes t.bytes → Fine t m → SameKinds (picture_of t m).mem
same_kinds t m b e =
    let g = finished_or_grey t m b e in
    record {
      segment = λ k. ⊎_elim
          (λ h. (g.before k h).strength 4 (lit< tt) ∙ sym ((g.before k h).kinds 0 (lit< tt)))
          (λ h. g.no_strengths (k * strength_width + 4) (omega arith) ∙ sym (g.no_kinds (k * mode_width + 0) (omega arith)))
          (lt_or k (done t m));
      small = λ k. ⊎_elim
          (λ h. (g.before k h).strength 5 (lit< tt) ∙ sym ((g.before k h).kinds 2 (lit< tt)))
          (λ h. g.no_strengths (k * strength_width + 5) (omega arith) ∙ sym (g.no_kinds (k * mode_width + 2) (omega arith)))
          (lt_or k (done t m));
    }

-- DEBLOCKING IGNORES THEM
pub kinds_ignored : (d : Planes) (s t : List ℕ) (w h : ℕ) (simple : Bool) → SameStrengths s t → deblock_of d s w h simple ≡ deblock_of d t w h simple
kinds_ignored d s t w h simple a = deblock_same d s t w h simple a.long same
  where
    byte : (k j : ℕ) → j < 4 → get_or (record_at strength_width s k) j 0 ≡ get_or (record_at strength_width t k) j 0
    byte k j l = record_byte strength_width s k j (omega arith) ∙ a.four k j l ∙ sym (record_byte strength_width t k j (omega arith))

    same : (k : ℕ) → strength_at_of s k ≡ strength_at_of t k
    same k = λ i. record { limit = byte k 0 (lit< tt) i; inner = byte k 1 (lit< tt) i; threshold = byte k 2 (lit< tt) i; inside = byte k 3 (lit< tt) i }
