-- `vertical` meets its contract: one plane of sixteen positions, or two of eight.
use Rattle.numbers.specs.Words.{ℕ, ◌+◌, ◌-◌, ◌*◌, sym, ◌∙◌, ap}
use Rattle.deblock.specs.Located.{upright_room, same_room, beside_eight}
use Rattle.deblock.specs.Deblock.{sweep_of, vertical_edges}
use Rattle.deblock.specs.DeblockLaws.{empty_edge}
use Rattle.deblock.proofs.squares.vertical.Goals as goal

pub upright-requires : goal.upright-requires
upright-requires c = upright_room c.requires.upright 15 c.if-n-eq16.true

pub upright_pair-requires : goal.upright_pair-requires
upright_pair-requires c =
    let e = beside_eight c.requires.beside c.if-n-eq16.false in
    let room = upright_room c.requires.upright 7 e in
    (room.0, same_room (c.requires.beside.two e) room.0, room.1)

pub returns-then-n-eq16 : goal.returns-then-n-eq16
unfolding vertical_edges
returns-then-n-eq16 c = record { p_after = c.upright.ensures ∙ ap (λ (k : ℕ). sweep_of c.args.g (c.args.y * c.args.w + c.args.x - 4) c.args.w 1 k c.args.p.now) (sym c.if-n-eq16.true); q_after = empty_edge _ _ _ _ _ _ (c.requires.beside.one c.if-n-eq16.true) }

pub returns-else-n-eq16 : goal.returns-else-n-eq16
unfolding vertical_edges
returns-else-n-eq16 c =
    let e = sym (beside_eight c.requires.beside c.if-n-eq16.false) in
    record { p_after = c.upright_pair.ensures.p_after ∙ ap (λ (k : ℕ). sweep_of c.args.g (c.args.y * c.args.w + c.args.x - 4) c.args.w 1 k c.args.p.now) e; q_after = c.upright_pair.ensures.q_after ∙ ap (λ (k : ℕ). sweep_of c.args.g (c.args.y * c.args.w + c.args.x - 4) c.args.w 1 k c.args.q.now) e }
