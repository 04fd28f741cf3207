-- The loop filter of RFC 6386, sections 15.2 and 15.3, in the RFC's own words: pixels are made signed, adjusted, and made unsigned again.
-- Rfc15Laws.antt says that Kernel.antt gives the same samples.
use Rattle.std.specs.Prelude.{◌+◌, ◌*◌, ◌/◌, ◌^◌, ◌&&◌, ◌||◌, ◌∷◌, ◌+ℤ◌, ◌-ℤ◌, ◌*ℤ◌}
use Rattle.numbers.specs.Words.{ℕ, Bool, true, not, cond, ltb, leb, List, [], get_or, ℤ, pos, nat_abs, shr_z, signed_byte_z}
use Rattle.filter.specs.Kernel.{Eight, eight_of}

-- ---- 15.2, simple filter, 4852-5016
-- The pixels of a segment that straddles an edge: `s.p0` is the RFC's P0, and the RFC's p0 is `u2s s.p0`.
abbrev pub Segment : Type 0
Segment = Eight ℕ

-- Eight samples as a segment.
abbrev pub segment_of : List ℕ → Segment
segment_of e = eight_of (λ i. get_or e i 0)

-- A segment as eight samples.
abbrev pub pixels_of : Segment → List ℕ
pixels_of s = s.p3 ∷ s.p2 ∷ s.p1 ∷ s.p0 ∷ s.q0 ∷ s.q1 ∷ s.q2 ∷ s.q3 ∷ []

-- `c` clamps to -128..127 (4861-4864).
abbrev pub c : ℤ → ℤ
c v = signed_byte_z v

-- `u2s` makes a pixel signed (4886), and `s2u` clamps and makes it unsigned again (4889).
unfoldable pub u2s : ℕ → ℤ
u2s v = pos v -ℤ pos 128

-- And back.
unfoldable pub s2u : ℤ → ℕ
s2u v = nat_abs (c v +ℤ pos 128)

-- An arithmetic shift to the right.
infixl 5 ◌>>◌
abbrev pub ◌>>◌ : ℤ → ℕ → ℤ
v >> n = shr_z v (2 ^ n)

-- The absolute difference of two pixels, taken signed.
abbrev pub differ : ℕ → ℕ → ℕ
differ a b = nat_abs (u2s a -ℤ u2s b)

-- What `common_adjust` returns, and the two pixels that it writes.
pub record Adjusted : Type 0 where
  pub a : ℤ
  pub P0 : ℕ
  pub Q0 : ℕ

-- `common_adjust` (4945-5000): b rounds the other way than a, so that the two together do not shift the picture.
unfoldable pub common_adjust : (useOuterTaps : Bool) → Segment → Adjusted
common_adjust useOuterTaps s =
    let p1 = u2s s.p1 in
    let p0 = u2s s.p0 in
    let q0 = u2s s.q0 in
    let q1 = u2s s.q1 in
    let w = c (cond useOuterTaps (c (p1 -ℤ q1)) (pos 0) +ℤ pos 3 *ℤ (q0 -ℤ p0)) in
    let b = c (w +ℤ pos 3) >> 3 in
    let a = c (w +ℤ pos 4) >> 3 in
    record { a = a; P0 = s2u (p0 +ℤ b); Q0 = s2u (q0 -ℤ a) }

-- The segment with the two pixels that `common_adjust` wrote.
abbrev pub adjusted : Segment → Adjusted → Segment
adjusted s r = record { p3 = s.p3; p2 = s.p2; p1 = s.p1; p0 = r.P0; q0 = r.Q0; q1 = s.q1; q2 = s.q2; q3 = s.q3 }

-- The edge test, printed with the outer difference halved in all places (5014, 5112; source 20.6, 8883).
unfoldable pub edge_test : (E : ℕ) → Segment → Bool
edge_test E s = leb (differ s.p0 s.q0 * 2 + differ s.p1 s.q1 / 2) E

-- `simple_segment` (5006-5016)
unfoldable pub simple_segment : (edgeLimit : ℕ) → Segment → Segment
simple_segment edgeLimit s = cond (edge_test edgeLimit s) (adjusted s (common_adjust true s)) s

-- ---- 15.3, normal filter, 5069-5275
-- `filter_yes` (5103-5117): the edge test, and every interior difference is within I.
unfoldable pub filter_yes : (I E : ℕ) → Segment → Bool
filter_yes I E s =
    edge_test E s
    && (leb (differ s.p3 s.p2) I && leb (differ s.p2 s.p1) I && leb (differ s.p1 s.p0) I
    && leb (differ s.q3 s.q2) I && leb (differ s.q2 s.q1) I && leb (differ s.q1 s.q0) I)

-- `hev` (5127-5133): high edge variance.
unfoldable pub hev : (thresh : ℕ) → Segment → Bool
hev thresh s = ltb thresh (differ s.p1 s.p0) || ltb thresh (differ s.q1 s.q0)

-- `subblock_filter`, where it acts: outer taps where the variance is high; where it is not, P1 and Q1 move too.
unfoldable pub subblock_act : (hv : Bool) → Segment → Segment
subblock_act hv s =
    let r = common_adjust hv s in
    let a = (r.a +ℤ pos 1) >> 1 in
    cond (not hv)
    (record {
      p3 = s.p3;
      p2 = s.p2;
      p1 = s2u (u2s s.p1 +ℤ a);
      p0 = r.P0;
      q0 = r.Q0;
      q1 = s2u (u2s s.q1 -ℤ a);
      q2 = s.q2;
      q3 = s.q3;
    })
    (adjusted s r)

-- `subblock_filter` (5161-5187): it acts where `filter_yes` holds.
unfoldable pub subblock_filter : (hevThreshold interiorLimit edgeLimit : ℕ) → Segment → Segment
subblock_filter hevThreshold interiorLimit edgeLimit s = cond (filter_yes interiorLimit edgeLimit s) (subblock_act (hev hevThreshold s) s) s

-- `MBfilter`, where it acts: roughly 3/7, 2/7 and 1/7 of the difference.
unfoldable pub mb_act : (hv : Bool) → Segment → Segment
mb_act hv s =
    let p2 = u2s s.p2 in
    let p1 = u2s s.p1 in
    let p0 = u2s s.p0 in
    let q0 = u2s s.q0 in
    let q1 = u2s s.q1 in
    let q2 = u2s s.q2 in
    let w = c (c (p1 -ℤ q1) +ℤ pos 3 *ℤ (q0 -ℤ p0)) in
    let a27 = c ((pos 27 *ℤ w +ℤ pos 63) >> 7) in
    let a18 = c ((pos 18 *ℤ w +ℤ pos 63) >> 7) in
    let a9 = c ((pos 9 *ℤ w +ℤ pos 63) >> 7) in
    cond (not hv)
    (record {
      p3 = s.p3;
      p2 = s2u (p2 +ℤ a9);
      p1 = s2u (p1 +ℤ a18);
      p0 = s2u (p0 +ℤ a27);
      q0 = s2u (q0 -ℤ a27);
      q1 = s2u (q1 -ℤ a18);
      q2 = s2u (q2 -ℤ a9);
      q3 = s.q3;
    })
    (adjusted s (common_adjust true s))

-- `MBfilter` (5217-5275): it acts where `filter_yes` holds.
unfoldable pub mb_filter : (hevThreshold interiorLimit edgeLimit : ℕ) → Segment → Segment
mb_filter hevThreshold interiorLimit edgeLimit s = cond (filter_yes interiorLimit edgeLimit s) (mb_act (hev hevThreshold s) s) s

-- ---- the filter that an edge gets
unfoldable pub rfc_filter : List ℕ → (simple edge : Bool) (limit inner threshold : ℕ) → List ℕ
rfc_filter e simple edge limit inner threshold =
    let s = segment_of e in
    pixels_of (cond simple (simple_segment limit s) (cond edge (mb_filter threshold inner limit s) (subblock_filter threshold inner limit s)))
