-- `paint` meets its contract: each check refuses as the definition does, and past all of them the square is painted.
use Rattle.numbers.specs.Words.{◌*◌, ◌/◌, ◌≤◌, arith, ◌≡◌, sym, ◌∙◌, ap, true, ⊎_elim, not-false, not-true, length, rules}
use Rattle.predict.specs.Predict.{Size}
use Rattle.planes.specs.Paint.{paint_modes_fine, square_fine_of, square_painted, square_blocks, paint_fine}
use Rattle.planes.specs.PaintLaws.{Good, modes_size, square_tiled, checks_good, luma_square, luma_whole, small_any, large_any}
use Rattle.planes.specs.Places.{size_some}
use Rattle.planes.specs.Pieces.{Ready, FirstFit, blocks_fine_of}
use Rattle.planes.specs.PiecesLaws.{square_room, square_all, square_fits, ready_turned, ready_plain, unfit}
use Rattle.planes.proofs.Turns.{refused_modes, refused_square, refused_coefficients, ready_all, first_all, blocks_all, all_fine, done}
use Rattle.planes.proofs.paint.Statement.{statement}
use Rattle.planes.proofs.paint.Tie as tie

-- past the first check, the second and the third
modes : (c : tie.Else-not-modes_fine) → paint_modes_fine c.args.size c.args.small c.args.mode c.args.modes.now ≡ true
modes c = sym c.modes_fine.ensures ∙ not-false _ c.if-not-modes_fine.false-raw

size : (c : tie.Else-not-modes_fine) → Size c.args.size
size c = modes_size _ _ _ _ (modes c)

square : (c : tie.Else-not-square_fine) → square_fine_of (length c.args.plane.now) c.args.stride c.args.column c.args.row c.args.size ≡ true
square c = sym c.square_fine.ensures ∙ not-false _ c.if-not-square_fine.false-raw

blocks : (c : tie.Else-not-blocks_fine) → blocks_fine_of c.args.size (length c.args.coefficients.now) c.args.from ≡ true
blocks c = sym c.blocks_fine.ensures ∙ not-false _ c.if-not-blocks_fine.false-raw

returns : tie.Need-returns-then-not-modes_fine
returns c = refused_modes _ _ _ _ _ _ _ _ _ (sym c.modes_fine.ensures ∙ not-true _ c.if-not-modes_fine.true-raw)

returns-2 : tie.Need-returns-then-not-square_fine
returns-2 c = refused_square _ _ _ _ _ _ _ _ _ (sym c.square_fine.ensures ∙ not-true _ c.if-not-square_fine.true-raw)

returns-3 : tie.Need-returns-then-not-blocks_fine
returns-3 c = refused_coefficients _ _ _ _ _ _ _ _ _ (unfit c.args.from c.args.coefficients.now (size c.before.before.before.before) (sym c.blocks_fine.ensures ∙ not-true _ c.if-not-blocks_fine.true-raw))

coded-blocks-requires : tie.Need-coded_blocks-coded-requires
coded-blocks-requires c κs =
    let r = square_room c.args.from c.args.coefficients.now (size c.before.before.before.before) (blocks c) in
    (sym r.0, r.2, r.3, r.4)

-- where the residuals stand ready
abbrev fore : tie.Joined-any → tie.Else-not-blocks_fine
fore c = c.before.before.before.before.before

abbrev start : tie.Joined-any → tie.Else-not-modes_fine
start c = (fore c).before.before.before.before

few : (c : tie.Joined-any) → ((start c).args.column ≤ 16384) × ((start c).args.row ≤ 16384) × ((start c).args.size ≤ 16384)
few c =
    let s = size (start c) in
    let t = (square_tiled _ _ _ _ s (square (fore c).before.before)).few in
    (t.0, t.1, omega (arith, size_some s))

ready : (c : tie.Joined-any) → Ready (start c).args.coefficients.now (start c).args.from (square_blocks (start c).args.size (start c).args.from (start c).args.coefficients.now) c.coded_blocks-coded.result c.if-any.values ((start c).args.size / 4 * ((start c).args.size / 4))
ready c =
    ⊎_elim
    (λ w. ready_turned (start c).args.from (start c).args.coefficients.now (size (start c)) (blocks (fore c)) _ c.coded_blocks-coded.ensures c.no_values-values.ensures w.residuals.ensures w.values-is)
    (λ w. ready_plain (start c).args.from (start c).args.coefficients.now (size (start c)) (blocks (fore c)) _ c.coded_blocks-coded.ensures (w.values-is ∙ c.no_values-values.ensures) (c.any.ensures w.if-any.false)) c.if-any.branch-raw

-- and where the square is known
good : (c : tie.After-scaled-y) → Good (length (start c.before.before).args.plane.now) (start c.before.before).args.stride c.scaled-x.result c.scaled-y.result (start c.before.before).args.size (start c.before.before).args.small (start c.before.before).args.mode (start c.before.before).args.modes.now
good c =
    rw (c.scaled-x.ensures, c.scaled-y.ensures) (checks_good _ _ _ _ _ _ _ _ (modes (start c.before.before)) (square (fore c.before.before).before.before))

all : (c : tie.Then-small) → (start c.before.before.before).args.from ≡ 0
all c =
    square_all (start c.before.before.before).args.from (start c.before.before.before).args.coefficients.now (size (start c.before.before.before)) (blocks (fore c.before.before.before)) ((good c.before).luma c.if-small.true)

small-square-requires : tie.Need-small_square-requires
small-square-requires c κs =
    let g = good c.before.before.before.before in
    (luma_square g c.if-small.true, (luma_whole g c.if-small.true, ready_all _ (g.luma c.if-small.true) (all c.before.before.before) (ready c.before.before.before.before.before.before)))

large-square-requires : tie.Need-large_square-requires
large-square-requires c κs =
    let g = good c.before.before.before.before in
    (g.square, (g.size, (g.large c.if-small.false, ready c.before.before.before.before.before.before)))

-- once each first coefficient was read too
fine : (c : tie.Joined-any) → FirstFit (start c).args.coefficients.now (start c).args.from ((start c).args.size / 4 * ((start c).args.size / 4))
    → paint_fine (length (start c).args.plane.now) (start c).args.stride (start c).args.column (start c).args.row (start c).args.size (start c).args.small (start c).args.mode (start c).args.modes.now (square_blocks (start c).args.size (start c).args.from (start c).args.coefficients.now) ≡ true
fine c f =
    all_fine (start c).args.plane.now (start c).args.stride (start c).args.column (start c).args.row (start c).args.size (start c).args.small (start c).args.mode (start c).args.modes.now (square_blocks (start c).args.size (start c).args.from (start c).args.coefficients.now)
    (modes (start c)) (square (fore c).before.before) (square_fits (start c).args.from (start c).args.coefficients.now (size (start c)) (blocks (fore c)) c.coded_blocks-coded.ensures f)

returns-4 : tie.Need-returns-then-small
returns-4 c =
    let l = (good c.before.before.before.before.before.before.before).luma c.if-small.true in
    done _ _ _ _ _ _ _ _ _ (fine c.before.before.before.before.before.before.before.before.before (first_all (start c.before.before.before.before.before.before.before.before.before).args.coefficients.now l (all c.before.before.before.before.before.before) c.small_square.ensures.1)) c.scaled-x.ensures c.scaled-y.ensures
    (c.small_square.ensures.0 ∙ ap (square_painted (start c.before.before.before.before.before.before.before.before.before).args.plane.now (start c.before.before.before.before.before.before.before.before.before).args.stride c.scaled-x.result c.scaled-y.result 16 true 0 (start c.before.before.before.before.before.before.before.before.before).args.modes.now) (blocks_all (start c.before.before.before.before.before.before.before.before.before).args.coefficients.now l (all c.before.before.before.before.before.before))
    ∙ small_any _ _ _ _ _ _ _ _ _ c.if-small.true l)

returns-5 : tie.Need-returns-else-small
returns-5 c = done _ _ _ _ _ _ _ _ _ (fine c.before.before.before.before.before.before.before.before.before c.large_square.ensures.1) c.scaled-x.ensures c.scaled-y.ensures (c.large_square.ensures.0 ∙ large_any _ _ _ _ _ _ _ _ _ c.if-small.false)

pub paint_spec : {M : Type 1} → statement M
paint_spec = tie.close (tie.spec (λ c κs. search rules) returns (λ c κs. size c) returns-2 (λ c κs. size c.before.before) returns-3 coded-blocks-requires (λ c κs. search rules) (λ c κs. search rules) (λ c κs. search rules) (λ c κs. let f = few c in (f.0, f.2)) (λ c κs. let f = few c.before in (f.1, f.2)) small-square-requires large-square-requires (λ c. search rules) returns-4 (λ c. search rules) returns-5)
