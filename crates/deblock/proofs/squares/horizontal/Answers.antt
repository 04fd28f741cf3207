-- `horizontal` meets its contract: one plane of sixteen positions, or two of eight.
use Rattle.numbers.specs.Words.{ℕ, ◌+◌, ◌-◌, ◌*◌, arith, sym, ◌∙◌, ap}
use Rattle.deblock.specs.Located.{level_at_lem, level_room, same_room, beside_eight}
use Rattle.deblock.specs.Deblock.{sweep_of, horizontal_edges}
use Rattle.deblock.specs.DeblockLaws.{empty_edge}
use Rattle.deblock.proofs.squares.horizontal.Goals as goal

pub overflow_mul-at : goal.overflow_mul-at
overflow_mul-at c = omega (arith, level_at_lem c.requires.level)

pub overflow_add-at : goal.overflow_add-at
overflow_add-at c = omega (arith, level_at_lem c.requires.level, c.requires.level.columns)

pub level-requires : goal.level-requires
level-requires c = level_room c.requires.level 16 c.if-n-eq16.true

pub level_pair-requires : goal.level_pair-requires
level_pair-requires c =
    let e = beside_eight c.requires.beside c.if-n-eq16.false in
    let room = level_room c.requires.level 8 e in
    (room.0, same_room (c.requires.beside.two e) room.0, room.1)

pub returns-then-n-eq16 : goal.returns-then-n-eq16
unfolding horizontal_edges
returns-then-n-eq16 c = record { p_after = c.level.ensures ∙ ap (λ (k : ℕ). sweep_of c.args.g ((c.args.y - 4) * c.args.w + c.args.x) 1 c.args.w k c.args.p.now) (sym c.if-n-eq16.true); q_after = empty_edge _ _ _ _ _ _ (c.requires.beside.one c.if-n-eq16.true) }

pub returns-else-n-eq16 : goal.returns-else-n-eq16
unfolding horizontal_edges
returns-else-n-eq16 c =
    let e = sym (beside_eight c.requires.beside c.if-n-eq16.false) in
    record { p_after = c.level_pair.ensures.p_after ∙ ap (λ (k : ℕ). sweep_of c.args.g ((c.args.y - 4) * c.args.w + c.args.x) 1 c.args.w k c.args.p.now) e; q_after = c.level_pair.ensures.q_after ∙ ap (λ (k : ℕ). sweep_of c.args.g ((c.args.y - 4) * c.args.w + c.args.x) 1 c.args.w k c.args.q.now) e }
