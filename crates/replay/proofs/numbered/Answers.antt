-- Each name is ASCII, so it is text.
use Rattle.std.proofs.Common.{rules}
use Rattle.std.specs.Str.{IsUtf8}
use Rattle.std.proofs.lemmas.Str.{IsUtf8-from_ascii}
use Rattle.replay.proofs.numbered.Goals as goal

pub unwrap-requires : goal.unwrap-requires
unwrap-requires g c =
    let u : IsUtf8 c.named-name.result = IsUtf8-from_ascii _ c.named-name.ensures.ascii in search rules

pub unwrap-requires-then-folder-eq1 : goal.unwrap-requires-then-folder-eq1
unwrap-requires-then-folder-eq1 g c =
    let u : IsUtf8 c.in_folder-name.result = IsUtf8-from_ascii _ (c.in_folder-name.ensures.ascii (search rules)) in search rules

pub unwrap-requires-2 : goal.unwrap-requires-2
unwrap-requires-2 g c =
    let u : IsUtf8 c.in_folder-name-2.result = IsUtf8-from_ascii _ (c.in_folder-name-2.ensures.ascii (search rules)) in search rules
