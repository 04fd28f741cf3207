-- The words of the source's contracts, as vp8_filter_kernel writes them. SourceLaws.antt says that they are ours.
use Rattle.std.specs.Prelude.{◌&&◌, ◌||◌, ◌+ℤ◌, ◌-ℤ◌, ◌*ℤ◌}
use Rattle.numbers.specs.Words.{ℕ, Bool, not, cond, eqb, List, get_or, ℤ, pos, negsuc, le_z, lt_z, quot_z, clip_z}
use Rattle.filter.specs.Kernel.{Samples, samples_across}

-- The magnitude of v.
unfoldable pub absolute : ℤ → ℤ
absolute v = cond (lt_z v (pos 0)) (pos 0 -ℤ v) v

-- v taken into lo..hi.
unfoldable pub bounded : (v lo hi : ℤ) → ℤ
bounded v lo hi = cond (lt_z v lo) lo (cond (lt_z hi v) hi v)

-- A division that rounds down, for numbers above -1048576: nothing negative is divided.
unfoldable pub divided : (v : ℤ) (d : ℕ) → ℤ
divided v d = quot_z (v +ℤ pos 1048576) (pos d) -ℤ quot_z (pos 1048576) (pos d)

-- The tests of `sample`.
unfoldable pub ok : Samples → (limit : ℕ) → Bool
ok e limit = le_z (pos 4 *ℤ absolute (e.p0 -ℤ e.q0) +ℤ absolute (e.p1 -ℤ e.q1)) (pos 2 *ℤ pos limit +ℤ pos 1)

-- No two neighbours on one side lie further apart than `inner`.
unfoldable pub smooth : Samples → (inner : ℕ) → Bool
smooth e inner =
    le_z (absolute (e.p3 -ℤ e.p2)) (pos inner) && le_z (absolute (e.p2 -ℤ e.p1)) (pos inner) && le_z (absolute (e.p1 -ℤ e.p0)) (pos inner)
    && le_z (absolute (e.q3 -ℤ e.q2)) (pos inner) && le_z (absolute (e.q2 -ℤ e.q1)) (pos inner) && le_z (absolute (e.q1 -ℤ e.q0)) (pos inner)

-- On one of the sides the two samples nearest to the edge lie further apart than `threshold`.
unfoldable pub hev : Samples → (threshold : ℕ) → Bool
hev e threshold = lt_z (pos threshold) (absolute (e.p1 -ℤ e.p0)) || lt_z (pos threshold) (absolute (e.q1 -ℤ e.q0))

-- Its three branches that move something, each for the kth of the samples e.
unfoldable pub simple_sample : List ℕ → (k : ℕ) → ℕ
simple_sample e k =
    let s = samples_across e in
    let a = pos 3 *ℤ (s.q0 -ℤ s.p0) +ℤ bounded (s.p1 -ℤ s.q1) (negsuc 127) (pos 127) in
    let a1 = bounded (divided (a +ℤ pos 4) 8) (negsuc 15) (pos 15) in
    let a2 = bounded (divided (a +ℤ pos 3) 8) (negsuc 15) (pos 15) in
    cond (eqb k 3) (clip_z (s.p0 +ℤ a2)) (cond (eqb k 4) (clip_z (s.q0 -ℤ a1)) (get_or e k 0))

-- A macroblock's edge.
unfoldable pub edge_sample : List ℕ → (k : ℕ) → ℕ
edge_sample e k =
    let s = samples_across e in
    let a = bounded (pos 3 *ℤ (s.q0 -ℤ s.p0) +ℤ bounded (s.p1 -ℤ s.q1) (negsuc 127) (pos 127)) (negsuc 127) (pos 127) in
    let a1 = divided (pos 27 *ℤ a +ℤ pos 63) 128 in
    let a2 = divided (pos 18 *ℤ a +ℤ pos 63) 128 in
    let a3 = divided (pos 9 *ℤ a +ℤ pos 63) 128 in
    cond (eqb k 1) (clip_z (s.p2 +ℤ a3))
    (cond (eqb k 2) (clip_z (s.p1 +ℤ a2))
    (cond (eqb k 3) (clip_z (s.p0 +ℤ a1))
    (cond (eqb k 4) (clip_z (s.q0 -ℤ a1))
    (cond (eqb k 5) (clip_z (s.q1 -ℤ a2))
    (cond (eqb k 6) (clip_z (s.q2 -ℤ a3)) (get_or e k 0))))))

-- An inner edge.
unfoldable pub inner_sample : List ℕ → (k : ℕ) → ℕ
inner_sample e k =
    let s = samples_across e in
    let a = pos 3 *ℤ (s.q0 -ℤ s.p0) in
    let a1 = bounded (divided (a +ℤ pos 4) 8) (negsuc 15) (pos 15) in
    let a2 = bounded (divided (a +ℤ pos 3) 8) (negsuc 15) (pos 15) in
    let a3 = divided (a1 +ℤ pos 1) 2 in
    cond (eqb k 2) (clip_z (s.p1 +ℤ a3))
    (cond (eqb k 3) (clip_z (s.p0 +ℤ a2))
    (cond (eqb k 4) (clip_z (s.q0 -ℤ a1))
    (cond (eqb k 5) (clip_z (s.q1 -ℤ a3)) (get_or e k 0))))

-- The kth sample after the filter.
unfoldable pub sample : List ℕ → (simple edge : Bool) (limit inner threshold : ℕ) (k : ℕ) → ℕ
sample e simple edge limit inner threshold k =
    let s = samples_across e in
    cond (not (ok s limit) || not simple && not (smooth s inner)) (get_or e k 0)
    (cond (simple || hev s threshold) (simple_sample e k) (cond edge (edge_sample e k) (inner_sample e k)))
