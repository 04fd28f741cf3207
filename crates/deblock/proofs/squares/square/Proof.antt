-- `square` meets its contract: four parts, each made or not.
use Rattle.numbers.specs.Words.{◌*◌, ◌≡◌, refl, ◌∙◌, ap, true, not, ⊎_elim, eqb, eq-eqb, ne_eqb, length, rules}
use Rattle.deblock.specs.Deblock.{when, outer_edge, inner_edge_of, vertical_edges, horizontal_edges, inners_of}
use Rattle.deblock.specs.DeblockLaws.{when_yes, when_no, when_long, length_vertical, length_horizontal, length_inners, square_is}
use Rattle.deblock.specs.Located.{past_first, square_left, square_top, beside_same}
use Rattle.deblock.proofs.squares.square.Statement.{statement}
use Rattle.deblock.proofs.squares.square.Tie as tie

-- the start from the first join
abbrev start : tie.Joined-column-ne0 → tie.Start
start c = c.before.before.before.before.before.before

-- the planes after each of the first three parts
first : (c : tie.Joined-column-ne0) → let f = when (not (eqb (start c).args.column 0)) (vertical_edges (outer_edge (start c).args.simple (start c).args.t) (start c).args.w ((start c).args.column * (start c).args.n) ((start c).args.row * (start c).args.n) (start c).args.n) in
    (c.if-column-ne0.p ≡ f (start c).args.p.now) × (c.if-column-ne0.q ≡ f (start c).args.q.now)
first c =
    ⊎_elim
    (λ v. let e : not (eqb (start c).args.column 0) ≡ true = ap not (ne_eqb _ 0 v.if-column-ne0.true) in (when_yes _ _ e (v.p-is ∙ rw (← c.outer_of-outer.ensures) v.vertical.ensures.0), when_yes _ _ e (v.q-is ∙ rw (← c.outer_of-outer.ensures) v.vertical.ensures.1)))
    (λ v. let e = ap not (eq-eqb _ 0 v.if-column-ne0.false) in (when_no _ _ e v.p-is, when_no _ _ e v.q-is)) c.if-column-ne0.branch-raw

second : (c : tie.Joined-inside) → let f = when (eqb (start c.before).args.t.inside 1) (inners_of true (inner_edge_of (start c.before).args.simple (start c.before).args.t) (start c.before).args.w ((start c.before).args.column * (start c.before).args.n) ((start c.before).args.row * (start c.before).args.n) (start c.before).args.n) in
    (c.if-inside.p ≡ f c.if-column-ne0.p) × (c.if-inside.q ≡ f c.if-column-ne0.q)
second c =
    ⊎_elim
    (λ v. (when_yes _ _ v.if-inside.true-raw (v.p-is ∙ rw (← c.inner_of-inner.ensures) v.inners.ensures.0), when_yes _ _ v.if-inside.true-raw (v.q-is ∙ rw (← c.inner_of-inner.ensures) v.inners.ensures.1)))
    (λ v. (when_no _ _ v.if-inside.false-raw v.p-is, when_no _ _ v.if-inside.false-raw v.q-is)) c.if-inside.branch-raw

third : (c : tie.Joined-row-ne0) → let f = when (not (eqb (start c.before.before).args.row 0)) (horizontal_edges (outer_edge (start c.before.before).args.simple (start c.before.before).args.t) (start c.before.before).args.w ((start c.before.before).args.column * (start c.before.before).args.n) ((start c.before.before).args.row * (start c.before.before).args.n) (start c.before.before).args.n) in
    (c.if-row-ne0.p ≡ f c.if-inside.p) × (c.if-row-ne0.q ≡ f c.if-inside.q)
third c =
    ⊎_elim
    (λ v. let e = ap not (ne_eqb _ 0 v.if-row-ne0.true) in (when_yes _ _ e (v.p-is ∙ rw (← c.outer_of-outer.ensures) v.horizontal.ensures.0), when_yes _ _ e (v.q-is ∙ rw (← c.outer_of-outer.ensures) v.horizontal.ensures.1)))
    (λ v. let e = ap not (eq-eqb _ 0 v.if-row-ne0.false) in (when_no _ _ e v.p-is, when_no _ _ e v.q-is)) c.if-row-ne0.branch-raw

-- none of them changes the lengths
long1 : (c : tie.Joined-column-ne0) → (length c.if-column-ne0.p ≡ length (start c).args.p.now) × (length c.if-column-ne0.q ≡ length (start c).args.q.now)
long1 c = (when_long _ _ _ (first c).0 (length_vertical _ _ _ _ _), when_long _ _ _ (first c).1 (length_vertical _ _ _ _ _))

long2 : (c : tie.Joined-inside) → (length c.if-inside.p ≡ length (start c.before).args.p.now) × (length c.if-inside.q ≡ length (start c.before).args.q.now)
long2 c =
    let l = long1 c.before in
    (when_long _ _ _ (second c).0 (length_inners _ _ _ _ _ _) ∙ l.0, when_long _ _ _ (second c).1 (length_inners _ _ _ _ _ _) ∙ l.1)

long3 : (c : tie.Joined-row-ne0) → (length c.if-row-ne0.p ≡ length (start c.before.before).args.p.now) × (length c.if-row-ne0.q ≡ length (start c.before.before).args.q.now)
long3 c =
    let l = long2 c.before in
    (when_long _ _ _ (third c).0 (length_horizontal _ _ _ _ _) ∙ l.0, when_long _ _ _ (third c).1 (length_horizontal _ _ _ _ _) ∙ l.1)

vertical-requires : tie.Need-vertical-requires
vertical-requires c κs = (square_left c.requires.0 c.requires.1.0 (past_first _ c.requires.1.0 c.if-column-ne0.true), c.requires.1.1.0)

inners-requires : tie.Need-inners-requires
inners-requires c κs = let s = start c.before.before.before in let l = long1 c.before.before.before in (rw l.0 s.requires.0, beside_same l.0 l.1 s.requires.1.1.0)

horizontal-requires : tie.Need-horizontal-requires
horizontal-requires c κs =
    let s = start c.before.before.before.before in
    let l = long2 c.before.before.before in
    (rw l.0 (square_top s.requires.0 s.requires.1.0 (past_first _ s.requires.1.0 c.if-row-ne0.true)), beside_same l.0 l.1 s.requires.1.1.0)

inners-requires-2 : tie.Need-inners-requires-then-inside-2
inners-requires-2 c κs = let s = start c.before.before.before.before.before in let l = long3 c.before.before.before in (rw l.0 s.requires.0, beside_same l.0 l.1 s.requires.1.1.0)

same_length : tie.Need-shape_of-p-then-inside-2
same_length c = rw c.inners-then-inside-2.ensures.0 (length_inners _ _ _ _ _ _ _) ∙ (long3 c.before.before.before.before.before.before.before.before).0

same-length-2 : tie.Need-shape_of-q-then-inside-2
same-length-2 c = rw c.inners-then-inside-2.ensures.1 (length_inners _ _ _ _ _ _ _) ∙ (long3 c.before.before.before.before.before.before.before.before).1

returns : tie.Need-returns-then-inside-2
returns c = (
  square_is _ _ _ _ _ _ _ (first c.before.before.before.before.before.before.before.before.before.before).0 (second c.before.before.before.before.before.before.before.before.before).0 (third c.before.before.before.before.before.before.before.before).0 (when_yes _ _ c.if-inside-2.true-raw (rw (← c.inner_of-inner.ensures) c.inners-then-inside-2.ensures.0)),
  square_is _ _ _ _ _ _ _ (first c.before.before.before.before.before.before.before.before.before.before).1 (second c.before.before.before.before.before.before.before.before.before).1 (third c.before.before.before.before.before.before.before.before).1 (when_yes _ _ c.if-inside-2.true-raw (rw (← c.inner_of-inner.ensures) c.inners-then-inside-2.ensures.1)),
)

same-length-3 : tie.Need-shape_of-p-else-inside-2
same-length-3 c = (long3 c.before).0

same-length-4 : tie.Need-shape_of-q-else-inside-2
same-length-4 c = (long3 c.before).1

returns-2 : tie.Need-returns-else-inside-2
returns-2 c = (
  square_is _ _ _ _ _ _ _ (first c.before.before.before).0 (second c.before.before).0 (third c.before).0 (when_no _ _ c.if-inside-2.false-raw refl),
  square_is _ _ _ _ _ _ _ (first c.before.before.before).1 (second c.before.before).1 (third c.before).1 (when_no _ _ c.if-inside-2.false-raw refl),
)

pub square_spec : {M : Type 1} → statement M
square_spec = tie.close (tie.spec (λ c. search rules) (λ c. search rules) (λ c κs. search rules) (λ c κs. search rules) vertical-requires inners-requires horizontal-requires inners-requires-2 same_length same-length-2 returns same-length-3 same-length-4 returns-2)
