use Rattle.numbers.specs.Words.{refl, sym, ◌∙◌}
use Rattle.choices.specs.ChoicesLaws.{checks_passed, check_fails, check_number}
use Rattle.key_frame.specs.KeyFrameLaws.{key_frame_entries, key_frame_untaken, key_frame_lengths, key_frame_shown}
use Rattle.key_frame.proofs.key_frame.Goals as goal

pub returns-then-header-ne-ENTRY_COUNT : goal.returns-then-header-ne-ENTRY_COUNT
returns-then-header-ne-ENTRY_COUNT c = key_frame_entries _ _ _ c.nothing.ensures c.if-header-ne-ENTRY_COUNT.true

pub returns-then-taken-ne0 : goal.returns-then-taken-ne0
returns-then-taken-ne0 c = key_frame_untaken _ _ _ c.take-t.ensures c.if-header-ne-ENTRY_COUNT.false c.nothing-then-taken-ne0.ensures c.if-taken-ne0.true

pub returns-in-Err : goal.returns-in-Err
returns-in-Err c =
    let n = c.number.ensures ∙ check_number _ _ c.in-Err.ensures in
    key_frame_lengths _ _ _ c.take-t.ensures c.if-header-ne-ENTRY_COUNT.false c.if-taken-ne0.false n c.nothing-in-Err.ensures (λ z. check_fails _ _ c.in-Err.ensures (sym n ∙ z))

pub returns : goal.returns
returns c = key_frame_shown _ _ _ c.take-t.ensures c.if-header-ne-ENTRY_COUNT.false c.if-taken-ne0.false refl (checks_passed _ _ c.in_default.ensures) c.store.ensures c.show.ensures
