use Rattle.numbers.specs.Words.{arith, ◌≡◌, refl, ◌∙◌, Bool, true, false, bit_of, bool_byte}
use Rattle.survey.specs.TallyLaws.{block_large, block_small, roomy_more, roomy_after}
use Rattle.survey.proofs.tally.block.Goals as goal

byte_bit : (b : Bool) → bool_byte b ≡ bit_of b
byte_bit true = refl
byte_bit false = refl

pub count-requires : goal.count-requires
count-requires c = record { roomy = roomy_more _ 999999800 1000000000 c.requires (omega arith); rows_bound = omega arith }

pub count-requires-2 : goal.count-requires-2
count-requires-2 c = record { roomy = roomy_more _ 999999801 1000000000 (roomy_after _ _ _ 8 4 _ c.count.ensures c.requires) (omega arith); rows_bound = omega arith }

pub count-requires-3 : goal.count-requires-3
count-requires-3 c = record {
  roomy = roomy_more _ 999999802 1000000000 (roomy_after _ _ _ 12 5 _ c.count-2.ensures (roomy_after _ _ _ 8 4 _ c.count.ensures c.requires)) (omega arith);
  rows_bound = omega arith;
}

pub count-requires-4 : goal.count-requires-4
count-requires-4 c = record {
  roomy = roomy_more _ 999999803 1000000000 (roomy_after _ _ _ 17 4 _ c.count-3.ensures (roomy_after _ _ _ 12 5 _ c.count-2.ensures (roomy_after _ _ _ 8 4 _ c.count.ensures c.requires))) (omega arith);
  rows_bound = omega arith;
}

pub count-requires-5 : goal.count-requires-5
count-requires-5 c = record {
  roomy = roomy_more _ 999999804 1000000000 (roomy_after _ _ _ 21 2 _ c.count-4.ensures (roomy_after _ _ _ 17 4 _ c.count-3.ensures (roomy_after _ _ _ 12 5 _ c.count-2.ensures
      (roomy_after _ _ _ 8 4 _ c.count.ensures c.requires)))) (omega arith);
  rows_bound = omega arith;
}

pub smalls-requires : goal.smalls-requires
smalls-requires c =
    roomy_more _ 999999805 999999900 (roomy_after _ _ _ 23 2 _ c.count-5.ensures (roomy_after _ _ _ 21 2 _ c.count-4.ensures (roomy_after _ _ _ 17 4 _ c.count-3.ensures
    (roomy_after _ _ _ 12 5 _ c.count-2.ensures (roomy_after _ _ _ 8 4 _ c.count.ensures c.requires))))) (omega arith)

pub returns-then-kinds : goal.returns-then-kinds
returns-then-kinds c =
    block_small _ _ _ c.read_mode_record-found.ensures c.read_strength-told.ensures _ _ c.luma-kind.ensures (c.from-skip.ensures ∙ byte_bit _) _ _ _ _ _ _
    c.count.ensures c.count-2.ensures c.count-3.ensures c.count-4.ensures c.count-5.ensures c.if-kinds.true c.smalls.ensures

pub returns-else-kinds : goal.returns-else-kinds
returns-else-kinds c =
    block_large _ _ _ c.read_mode_record-found.ensures c.read_strength-told.ensures _ _ c.luma-kind.ensures (c.from-skip.ensures ∙ byte_bit _) _ _ _ _ _ _
    c.count.ensures c.count-2.ensures c.count-3.ensures c.count-4.ensures c.count-5.ensures c.if-kinds.false
