-- Demand 1, arguments: a bad one is refused by number and nothing lent changes; with good ones it does not matter what memory held.
use Rattle.std.specs.Prelude.{◌≤◌, ◌≡◌}
use Rattle.numbers.specs.Words.{ℕ, zero, suc, arith, refl, sym, ◌∙◌, ap, length, replicate, Err}
use Rattle.choices.specs.declared.answer.Stop.TheVariants as Stop
use Rattle.lent.specs.declared.sizes.Sizes.{Sizes}
use Rattle.lent.specs.Memory.{Memory, sizes_of, blank_of}
use Rattle.tile.specs.Tile.{blocks_of, Sides, Counted, Cut}
use Rattle.choices.specs.Choices.{Call, Bounded, Lengths, refusal_of, named, number_of, values_of}
use Rattle.choices.specs.ChoicesLaws.{refusal_named, refusal_most, refusal_none, refused_side, refused_count, refused_entries, refused_lengths, refused_partitions, fine_side, fine_count, fine_entries, fine_lengths, fine_partitions}
use Rattle.picture.specs.CallLaws.{picture_bad, picture_good}
use Rattle.picture.specs.Picture.{Ended, pictured_of, start_of, begun_of, run_of, picture_of}

-- an argument is refused where one of the five checks fails, and none is where all pass
abbrev pub Bad : Call → Memory → Type 0
Bad t m = refusal_of t (sizes_of m) ≡ 0 → ⊥

-- all five checks pass
abbrev pub Fine : Call → Memory → Type 0
Fine t m = refusal_of t (sizes_of m) ≡ 0

-- the number that the picture call answers
abbrev pub number : Call → Memory → ℕ
number t m = number_of (picture_of t m).answer

-- ---- the call's answer where an argument is refused: a number in 1..5, no macroblock finished, and the memory as it was lent
pub record Refused (t : Call) (m : Memory) : Type 0 where
  pub is : picture_of t m ≡ record { answer = Err (Stop.Refused (named (refusal_of t (sizes_of m)))); mem = m }
  pub least : 1 ≤ number t m
  pub most : number t m ≤ 5
  pub none : values_of (picture_of t m).answer ≡ 0
  pub unchanged : (picture_of t m).mem ≡ m
  -- 1: a bad width or height
  pub one : number t m ≡ 1 → Sides t.tile.width t.tile.height → ⊥
  -- 2: those are good; the count is not 1..8
  pub two : number t m ≡ 2 → Sides t.tile.width t.tile.height × (Counted t.tile.count → ⊥)
  -- 3: that is good too; a header entry is outside -255..255
  pub three : number t m ≡ 3 → Sides t.tile.width t.tile.height × Counted t.tile.count × (Bounded t.header → ⊥)
  -- 4: and that; a lent length or the header's is wrong
  pub four : number t m ≡ 4 → Sides t.tile.width t.tile.height × Counted t.tile.count × Bounded t.header × (Lengths t (sizes_of m) → ⊥)
  -- 5: and that; a partition is outside the bytes, or the starting reader is out of range
  pub five : number t m ≡ 5 → Sides t.tile.width t.tile.height × Counted t.tile.count × Bounded t.header × Lengths t (sizes_of m) × (Cut t.bytes t.tile → ⊥)

-- THE PROMISE: a refused argument changes nothing
pub refused_changes_nothing : (t : Call) (m : Memory) → Bad t m → Refused t m
refused_changes_nothing t m b =
    let z = sizes_of m in
    let r = picture_bad t m refl b in
    let a : refusal_of t z ≡ number t m = sym (refusal_named t z b) ∙ ap (λ (o : Ended). number_of o.answer) r in
    record {
      is = sym r;
      least = omega (arith, b);
      most = omega (arith, refusal_most t z);
      none = sym (ap (λ (o : Ended). values_of o.answer) r);
      unchanged = sym (ap (λ (o : Ended). o.mem) r);
      one = λ e. refused_side t z (a ∙ e);
      two = λ e. refused_count t z (a ∙ e);
      three = λ e. refused_entries t z (a ∙ e);
      four = λ e. refused_lengths t z (a ∙ e);
      five = λ e. refused_partitions t z (a ∙ e);
    }

-- ---- the other way round: where a check fails and those before it pass, the call answers its number
pub record Decided (t : Call) (m : Memory) : Type 0 where
  pub one : (Sides t.tile.width t.tile.height → ⊥) → number t m ≡ 1
  pub two : Sides t.tile.width t.tile.height → (Counted t.tile.count → ⊥) → number t m ≡ 2
  pub three : Sides t.tile.width t.tile.height → Counted t.tile.count → (Bounded t.header → ⊥) → number t m ≡ 3
  pub four : Sides t.tile.width t.tile.height → Counted t.tile.count → Bounded t.header → (Lengths t (sizes_of m) → ⊥) → number t m ≡ 4
  pub five : Sides t.tile.width t.tile.height → Counted t.tile.count → Bounded t.header → Lengths t (sizes_of m) → (Cut t.bytes t.tile → ⊥) → number t m ≡ 5

-- a number up to 5 is one of six
by_six : {P : Type 0} (n : ℕ) → n ≤ 5 → (n ≡ 0 → P) → (n ≡ 1 → P) → (n ≡ 2 → P) → (n ≡ 3 → P) → (n ≡ 4 → P) → (n ≡ 5 → P) → P
by_six zero h a b c d e f = a refl
by_six (suc zero) h a b c d e f = b refl
by_six (suc (suc zero)) h a b c d e f = c refl
by_six (suc (suc (suc zero))) h a b c d e f = d refl
by_six (suc (suc (suc (suc zero)))) h a b c d e f = e refl
by_six (suc (suc (suc (suc (suc zero))))) h a b c d e f = f refl
by_six (suc (suc (suc (suc (suc (suc n)))))) h a b c d e f = absurd (omega arith)

-- THE PROMISE: the first check that fails decides the number
pub first_check_decides : (t : Call) (m : Memory) → Decided t m
first_check_decides t m = record {
  one = λ n. by_six r most (λ e. absurd (n (fine_side t z e))) answered
      (λ e. absurd (n (refused_count t z e).0)) (λ e. absurd (n (refused_entries t z e).0)) (λ e. absurd (n (refused_lengths t z e).0)) (λ e. absurd (n (refused_partitions t z e).0));
  two = λ a n. by_six r most (λ e. absurd (n (fine_count t z e))) (λ e. absurd (refused_side t z e a)) answered
      (λ e. absurd (n (refused_entries t z e).1)) (λ e. absurd (n (refused_lengths t z e).1)) (λ e. absurd (n (refused_partitions t z e).1));
  three = λ a b n. by_six r most (λ e. absurd (n (fine_entries t z e))) (λ e. absurd (refused_side t z e a)) (λ e. absurd ((refused_count t z e).1 b)) answered
      (λ e. absurd (n (refused_lengths t z e).2)) (λ e. absurd (n (refused_partitions t z e).2));
  four = λ a b c n. by_six r most (λ e. absurd (n (fine_lengths t z e))) (λ e. absurd (refused_side t z e a)) (λ e. absurd ((refused_count t z e).1 b)) (λ e. absurd ((refused_entries t z e).2 c)) answered
      (λ e. absurd (n (refused_partitions t z e).3));
  five = λ a b c d n. by_six r most (λ e. absurd (n (fine_partitions t z e))) (λ e. absurd (refused_side t z e a)) (λ e. absurd ((refused_count t z e).1 b)) (λ e. absurd ((refused_entries t z e).2 c))
      (λ e. absurd ((refused_lengths t z e).3 d)) answered;
}
  where
    z : Sizes
    z = sizes_of m

    r : ℕ
    r = refusal_of t z

    most : r ≤ 5
    most = refusal_most t z

    -- the call answers the number of the check
    answered : {n : ℕ} → r ≡ suc n → number t m ≡ suc n
    answered e =
        let b : r ≡ 0 → ⊥ = λ g. omega arith in
        sym (ap (λ (o : Ended). number_of o.answer) (picture_bad t m refl b)) ∙ refusal_named t z b ∙ e

-- and good arguments are not refused
pub good_arguments : (t : Call) (m : Memory) → Sides t.tile.width t.tile.height → Counted t.tile.count → Bounded t.header → Lengths t (sizes_of m) → Cut t.bytes t.tile → Fine t m
good_arguments t m a b c d e = sym (refusal_none t (sizes_of m) a b c d e)

-- ---- good arguments: the macroblocks from blank memory
pub fine_is : (t : Call) (m : Memory) → Fine t m → picture_of t m ≡ run_of (blocks_of t.tile.width t.tile.height) (pictured_of t) 0 (begun_of t m)
fine_is t m e = picture_good t m (sym e) refl

-- memories of the same lengths are the same once they are blank
pub blank_same : (m n : Memory) → sizes_of m ≡ sizes_of n → blank_of m ≡ blank_of n
blank_same m n e =
    λ i. record {
      y = replicate (e i).y 128;
      u = replicate (e i).u 128;
      v = replicate (e i).v 128;
      columns = replicate (e i).columns 0;
      modes = replicate (e i).modes 0;
      strengths = replicate (e i).strengths 0;
    }

-- a tile that is not refused with one memory and with another finds the same lengths
pub sizes_same : (t u : Call) (m n : Memory) → t.form ≡ u.form → t.tile.width ≡ u.tile.width → t.tile.height ≡ u.tile.height → Fine t m → Fine u n → sizes_of m ≡ sizes_of n
sizes_same t u m n form w h e f =
    let a = (fine_lengths t (sizes_of m) e).sizes in
    let b = (fine_lengths u (sizes_of n) f).sizes in
    let y : length m.y ≡ length n.y = rw (w, h) at a.y ∙ sym b.y in
    let c : length m.columns ≡ length n.columns = rw (form, w) at a.columns ∙ sym b.columns in
    let u2 : length m.u ≡ length n.u = rw (w, h) at a.u ∙ sym b.u in
    let v : length m.v ≡ length n.v = rw (w, h) at a.v ∙ sym b.v in
    let d : length m.modes ≡ length n.modes = rw (w, h) at a.modes ∙ sym b.modes in
    let s : length m.strengths ≡ length n.strengths = rw (w, h) at a.strengths ∙ sym b.strengths in
    λ i. record { y = y i; u = u2 i; v = v i; columns = c i; modes = d i; strengths = s i }

-- THE PROMISE: what lent memory held before the call does not matter
pub old_memory_does_not_matter : (t : Call) (m n : Memory) → Fine t m → Fine t n → picture_of t m ≡ picture_of t n
old_memory_does_not_matter t m n e f =
    fine_is t m e
    ∙ ap (λ (b : Memory). run_of (blocks_of t.tile.width t.tile.height) (pictured_of t) 0 (start_of t.bytes t.tile b)) (blank_same m n (sizes_same t t m n refl refl refl e f))
    ∙ sym (fine_is t n f)
