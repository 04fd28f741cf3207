use Rattle.numbers.specs.Words.{ℕ, ◌*◌, ◌/◌, ◌≤◌, arith, ◌≡◌, refl, sym, ap, List, length, take, replicate, rules}
use Rattle.lent.specs.Memory.{column_width, mode_width, strength_width}
use Rattle.casefile.specs.RunLaws.{report_is, part_long, part_is, memory_is}
use Rattle.casefile.proofs.run.lent.Statement.{statement}
use Rattle.casefile.proofs.run.lent.Tie as tie

-- places: behind the sizes, behind the arrays
abbrev sized : tie.After-records-strengths → tie.After-area-blocks
sized c = c.before.before.before.before.before.before

abbrev made : tie.After-strengths-1 → tie.After-records-strengths
made c = c.before.before.before.before.before.before

most : (m n : ℕ) {l : List ℕ} → l ≡ replicate m 165 → n ≤ m → n ≤ 4096 → length (take n l) ≤ 4096
most m n e h g = rw (sym (part_long m 165 n e h)) g

area-requires : tie.Need-area-large-requires
area-requires c κs = search rules

area-requires-2 : tie.Need-area-small-requires
area-requires-2 c κs = search rules

area-requires-3 : tie.Need-area-blocks-requires
area-requires-3 c κs = search rules

mul-column-bytes : tie.Need-overflow_mul-column_bytes
mul-column-bytes c = search rules

mul-mode-bytes : tie.Need-overflow_mul-mode_bytes
mul-mode-bytes c = search rules

mul-strength-bytes : tie.Need-overflow_mul-strength_bytes
mul-strength-bytes c = search rules

luma-requires : tie.Need-luma-y-requires
luma-requires c κs = search rules

chroma-requires : tie.Need-chroma-u-requires
chroma-requires c κs = search rules

chroma-requires-2 : tie.Need-chroma-v-requires
chroma-requires-2 c κs = search rules

records-requires : tie.Need-records-columns-requires
records-requires c κs = search rules

records-requires-2 : tie.Need-records-modes-requires
records-requires-2 c κs = search rules

records-requires-3 : tie.Need-records-strengths-requires
records-requires-3 c κs = search rules

array-borrow-prefix-y : tie.Need-slice_bounds-y-end
array-borrow-prefix-y c = search rules

slice-aggregate-told : tie.Need-slice_bounds-told-end
slice-aggregate-told c = part_long 4096 165 _ c.luma-y.ensures (omega arith)

array-borrow-prefix-u : tie.Need-slice_bounds-u-end
array-borrow-prefix-u c = search rules

slice-aggregate-told-2 : tie.Need-slice_bounds-told-end-2
slice-aggregate-told-2 c = part_long 1024 165 _ c.chroma-u.ensures (omega arith)

array-borrow-prefix-v : tie.Need-slice_bounds-v-end
array-borrow-prefix-v c = search rules

slice-aggregate-told-3 : tie.Need-slice_bounds-told-end-3
slice-aggregate-told-3 c = part_long 1024 165 _ c.chroma-v.ensures (omega arith)

array-borrow-prefix-columns : tie.Need-slice_bounds-columns-end
array-borrow-prefix-columns c = search rules

slice-aggregate-told-4 : tie.Need-slice_bounds-told-end-4
slice-aggregate-told-4 c = part_long 320 165 _ c.records-columns.ensures (omega arith)

array-borrow-prefix-modes : tie.Need-slice_bounds-modes-end
array-borrow-prefix-modes c = search rules

slice-aggregate-told-5 : tie.Need-slice_bounds-told-end-5
slice-aggregate-told-5 c = part_long 320 165 _ c.records-modes.ensures (omega arith)

array-borrow-prefix-strengths : tie.Need-slice_bounds-strengths-end
array-borrow-prefix-strengths c = search rules

slice-aggregate-told-6 : tie.Need-slice_bounds-told-end-6
slice-aggregate-told-6 c = part_long 320 165 _ c.records-strengths.ensures (omega arith)

told-requires : tie.Need-told-requires
told-requires c κs =
    let a = made c in
    let z = sized a in (
      z.requires.0,
      (
        most 4096 z.area-large.result a.luma-y.ensures (omega arith) (omega arith),
        most 1024 z.area-small.result a.chroma-u.ensures (omega arith) (omega arith),
        most 1024 z.area-small.result a.chroma-v.ensures (omega arith) (omega arith),
      ),
    )

returns : tie.Need-returns
returns c =
    let a = made c.before.before.before.before.before.before.before in
    let z = sized a in
    report_is _ c.told.ensures
    (memory_is
    (part_is 4096 165 z.area-large.result a.luma-y.ensures (omega (arith, z.area-large.ensures.1)) z.area-large.ensures.0)
    (part_is 1024 165 z.area-small.result a.chroma-u.ensures (omega (arith, z.area-small.ensures.1)) z.area-small.ensures.0)
    (part_is 1024 165 z.area-small.result a.chroma-v.ensures (omega (arith, z.area-small.ensures.1)) z.area-small.ensures.0)
    (part_is 320 165 (column_width * (z.args.w / 16)) a.records-columns.ensures (omega (arith, z.requires.0.width, z.requires.1.0)) refl)
    (part_is 320 165 (mode_width * z.area-blocks.result) a.records-modes.ensures (omega (arith, z.area-blocks.ensures.1)) (ap (λ (n : ℕ). mode_width * n) z.area-blocks.ensures.0))
    (part_is 320 165 (strength_width * z.area-blocks.result) a.records-strengths.ensures (omega (arith, z.area-blocks.ensures.1)) (ap (λ (n : ℕ). strength_width * n) z.area-blocks.ensures.0)))

pub lent_spec : {M : Type 1} → statement M
lent_spec = tie.close (tie.spec area-requires area-requires-2 area-requires-3 mul-column-bytes mul-mode-bytes mul-strength-bytes luma-requires chroma-requires chroma-requires-2 records-requires records-requires-2 records-requires-3 array-borrow-prefix-y slice-aggregate-told array-borrow-prefix-u slice-aggregate-told-2 array-borrow-prefix-v slice-aggregate-told-3 array-borrow-prefix-columns slice-aggregate-told-4 array-borrow-prefix-modes slice-aggregate-told-5 array-borrow-prefix-strengths slice-aggregate-told-6 told-requires returns)
