use Rattle.numbers.specs.Words.{◌∙◌, ap, pos, negsuc, Know, round, inside_read, answered, back, up_to, w32, rules}
use Rattle.header.specs.Levels.{delta_of}
use Rattle.header.specs.LevelsLaws.{delta_in, level_is}
use Rattle.header.proofs.levels.leveled.Statement.{statement}
use Rattle.header.proofs.levels.leveled.Tie as tie
use Rattle.header.proofs.levels.leveled.Reads as reads
use Rattle.header.proofs.levels.leveled.Lts as lts
use Rattle.numbers.proofs.clamp_to.Reads as clamp-to-reads
use Rattle.header.proofs.levels.delta.Reads as delta-reads
use Rattle.header.proofs.levels.shifted.Reads as shifted-reads
use Rattle.header.proofs.own.segmented.Reads as segmented-reads

add-segmented : tie.Need-overflow_add-segment
add-segmented c = search rules

segmented-requires : tie.Need-segmented-requires
segmented-requires c κs = search rules

clamp-to-requires : tie.Need-clamp_to-requires
clamp-to-requires c κs = search rules

delta-requires : tie.Need-delta-requires
delta-requires c κs = search rules

delta_is : (c : tie.After-delta) → (Know (round w32 c.delta.result) (delta_of c.args.h.now c.args.small) (negsuc 509) (pos 510))
delta_is c = answered w32 c.delta.ensures (delta_in _ _ c.requires.1) tt

shifted-requires : tie.Need-shifted-requires
shifted-requires c κs = inside_read (delta_is c)

returns : tie.Need-returns
returns c =
    c.shifted.ensures
    ∙ level_is _ _ _ (c.clamp_to.ensures ∙ ap (up_to 63) (back w32 c.segmented.type_inv ∙ c.segmented.ensures)) (delta_is c.before).eq

pub leveled_spec : {M : Type 1} → statement M
leveled_spec = tie.close (tie.spec add-segmented segmented-requires clamp-to-requires delta-requires shifted-requires returns)
