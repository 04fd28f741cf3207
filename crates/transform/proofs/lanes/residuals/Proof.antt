-- `residuals` meets its contract: what passes the tests is what either way asks.
use Rattle.numbers.specs.Words.{◌≡◌, sym, ◌∙◌, true, not-false, not-true, length, rules}
use Rattle.transform.specs.Lanes.{known_length_of}
use Rattle.transform.specs.LanesLaws.{each_small_of, each_small_lem, known_blocks, whole_blocks, refused_length, done_together, done_alone}
use Rattle.transform.proofs.lanes.residuals.Statement.{statement}
use Rattle.transform.proofs.lanes.residuals.Tie as tie

returns : tie.Need-returns-then-not-known_length
returns c = refused_length _ _ (sym c.known_length.ensures ∙ not-true _ c.if-not-known_length.true-raw)

-- what the tests showed
known : (c : tie.Else-not-known_length) → known_length_of (length c.args.c.now) ≡ true
known c = sym c.known_length.ensures ∙ not-false _ c.if-not-known_length.false-raw

small : (c : tie.Then-each_small) → each_small_of c.args.c.now ≡ true
small c = sym c.each_small.ensures ∙ c.if-each_small.true

turn-requires : tie.Need-turn-requires
turn-requires c κs = (whole_blocks (known_blocks _ (known c.before.before.before)), each_small_lem _ (small c.before))

turn-alone-requires : tie.Need-turn_alone-requires
turn-alone-requires c κs = whole_blocks (known_blocks _ (known c.before.before.before))

returns-2 : tie.Need-returns-then-each_small
returns-2 c = done_together _ _ (known c.before.before.before.before) (small c.before.before) c.turn.ensures

returns-3 : tie.Need-returns-else-each_small
returns-3 c = done_alone _ _ (known c.before.before.before.before) c.turn_alone.ensures

pub residuals_spec : {M : Type 1} → statement M
residuals_spec = tie.close (tie.spec (λ c κs. search rules) returns (λ c κs. known_blocks _ (known c)) turn-requires turn-alone-requires returns-2 returns-3)
