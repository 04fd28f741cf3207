-- The words that other crates' specs and proofs are written in: the kit's, under the kit's own names, and those of this crate.
-- numbers
pub use Rattle.std.specs.Prelude.{ℕ, zero, suc, ◌+◌, ◌-◌, ◌*◌, ◌/◌, ◌%◌, ◌^◌, min, max, ◌≤◌, ◌<◌, ◌≡◌, ◌≢◌, refl, Bool, true, false, not, ◌&&◌, ◌||◌, cond, ◌⊎◌, eqb, ltb, leb, T, List, [], ◌∷◌, ◌++◌, length, get_or, set, take, drop, replicate, ℤ, pos, negsuc, neg_ℤ, nat_abs, ◌+ℤ◌, ◌-ℤ◌, ◌*ℤ◌, ◌≤ℤ◌}
pub use Rattle.std.proofs.Common.{add-one, add_assoc, add-mul, add-suc, add-zero, div-add-mod', div-lt_iff_lt-mul, div-mul-le_self, div-one, le-div_iff_mul-le, le_of_mul-le-mul_right, lt_of_mul-lt-mul_right, mod-eq_of_lt, mod-lt, mul_assoc, mul_comm, mul-div_cancel, mul-le-mul, mul-le-mul_left, mul-le-mul_right, mul-lt-mul_of_pos_right, mul-one, mul-suc, mul-zero, one-mul, pow-suc, sub-add_cancel, suc-add, suc-mul, zero-add, arith, pow-add, pow_mono, pow_pos, shr-shr, sym, ◌∙◌, ap, ap₂, subst, inl, inr, ⊎_elim, lit<, lit≤, append_assoc, append-nil, drop_of_length-le, length-append, length-drop, length-set, length-take, take-append-drop, drop_at, drop-cons, drop-drop, ext_get_or, get_or-append-add, get_or-drop, get_or-set_other, get_or-set_same, get_or-take, length-take-le, lt-length-set, set-set, take_all, take_at, take-suc}
pub use Rattle.std.proofs.Math.Nat.{add-mul-div_right, add-mul-mod_self_right, div-add-mod, div-div-eq-div-mul, div-eq_of_lt, div-eq_of_lt-le, mod-add-div', mod-le, mul-add-mod_self_left, mul-div-mul_right, mul-lt-mul_of_pos_left, mul-mod_left, pow-succ'}
pub use Rattle.std.proofs.Math.Decide.{dec_lt, ℕ_discrete}
pub use Rattle.std.proofs.Math.Arith.{digits_div, digits_lt, digits_mod, mod-mul}
pub use Rattle.std.proofs.Math.Pow.{field, high, pow-lt, split}
pub use Rattle.std.proofs.lemmas.Nat.{shl-shr, and_block, and_le_l, and_le_r, and_mask, or_lt, xor_block, xor_lt, leading_le, leading_top}
pub use Rattle.std.specs.Int.Bits.{bit_and, bit_or, bit_xor, or_add_and, xor_self, xor_zero_r}
unfoldable pub use Rattle.std.specs.Int.Count.{count_leading_zeros, count_trailing_zeros}
pub use Rattle.std.specs.Int.Count.{leading_unique}
pub use Rattle.numbers.specs.Powers.{twice, doubled, doubled_less, halved, mod_scale, cases8}
-- answers
pub use Rattle.std.specs.Prelude.{Option, Some, None, Result, Ok, Err}
-- equations, tests and choices
pub use Rattle.numbers.specs.Tests.{lt_or, eq_or, not_first, never, not_so, both_left, both_right, both_true, both_false, cond_at, eq-eqb, eqb-false, eqb-true, le-leb, le-ltb, leb-false, leb-true, lt-leb, lt-ltb, ltb-false, ltb-true, ne_eqb, not-false, not-true}
pub use Rattle.numbers.specs.Flags.{bit_of, bit_small, byte_bit}
-- lists and tables
pub use Rattle.std.proofs.Math.ListN.{get_or-append, get_or-eq_default}
pub use Rattle.std.proofs.lemmas.List.{get_or-replicate, length-replicate, drop-append-le, set-append_left, set_at, set-get_or, take-set-le}
pub use Rattle.std.proofs.Math.Seq.{append_snoc, drop-append-add, drop-append_seam, drop-length, get_or-append_seam, length-sets, set_out, take-append_seam, take-length}
pub use Rattle.std.proofs.lemmas.List.Edits.{sets, sets-eq}
unfoldable pub use Rattle.numbers.specs.Lists.{build}
pub use Rattle.numbers.specs.Lists.{listed, Filled, ◌∷≡◌, set_keeps, length_build, build_listed, get_or_build, get_or_build_past, built, build_same, filled_none, filled_next, filled_all, get_or_constant, constant, build_constant, byte_at, Bytes, copied_over, copy_whole}
unfoldable pub use Rattle.numbers.specs.Runs.{placed, copied}
pub use Rattle.numbers.specs.Runs.{Off, off_less, placed_none, placed_next, length_placed, placed_in, placed_off, placed_keeps, placed_self, placed_same, copied_placed, copied_none, copied_next, length_copied, copied_keeps, copied_in, copied_off, part_placed, part_copied, part_filled}
unfoldable pub use Rattle.numbers.specs.Stores.{stored_at}
pub use Rattle.numbers.specs.StoresLaws.{stored_none, stored_next, length_stored, stored_off, stored_in, stored_keeps, stored_more, stored_same}
pub use Rattle.numbers.specs.Tables.{all_at, all_of, all_below, permuted, all_at_lem, all_of_lem, all_of_any, all_below_lem, permuted_at, flat_at_lem, Laid, laid_none, laid_next, laid_all}
-- signed numbers
pub use Rattle.std.proofs.Math.IntN.{+ℤ_comm, +ℤ_idl, +ℤ_idr}
pub use Rattle.std.specs.Int.Signed.{le_z, lt_z, quot_z, rem_z, shr_z, mag, non_neg, le_z_yes, pos-nat_abs, yes_non_neg, ≤ℤ_refl}
pub use Rattle.numbers.specs.In.{In, Each, Each2}
pub use Rattle.numbers.specs.Parts.{up, dn, to_le, of_le, of_eq, lt_parts, nlt_le, le_true, true_le, ≤ℤ-trans, add_parts, up_neg, dn_neg, sub_parts_ℤ, up_times, dn_times, nat_abs_parts, shr_parts}
pub use Rattle.numbers.specs.Order.{times_mono, shr_mono, In_wider}
pub use Rattle.numbers.specs.Know.{within, Know, num, plainly, round, fit, rounded, know_add, know_sub, inside, inside_read, wider}
pub use Rattle.numbers.specs.Eval.{Var, is, E, val, chk, know, fits, ◌⊕◌, ◌⊖◌, ◌⊗◌, ◌⊙◌, lit, rem, shr, v}
pub use Rattle.numbers.specs.Hand.{known, there, any, unsigned_below, unsigned, answered, called, passed, back, unsigned_asks, same_bits}
pub use Rattle.numbers.specs.Narrow.{lt_is, lt_left, ge_left, ge_right}
pub use Rattle.numbers.specs.Bounds.{each_[], each_∷, each2_[], each2_∷, each_set}
pub use Rattle.numbers.specs.Floor.{floor_is, floor16_source, floor8_source, divided2_source, divided8_source, divided128_source}
-- the functions of crate numbers
unfoldable pub use Rattle.numbers.specs.Clamp.{clamp_z, up_to}
pub use Rattle.numbers.specs.Clamp.{clip_z, signed_to, signed_byte_z}
pub use Rattle.numbers.specs.ClampLaws.{clamp_tests, clamp_cases, clamp_in, clamp_same, clamp_low, clamp_high, up_to_is, up_to_abs, up_to_le, up_to_same, signed_in}
unfoldable pub use Rattle.numbers.specs.Wrap.{wrap_z, wrap16_of}
pub use Rattle.numbers.specs.Wrap.{wrap16_number_of, signed16}
pub use Rattle.numbers.specs.WrapLaws.{wrap_in, wrap_is, wrapped_source, wrapped_good, wrapped_value, wrapped_never}
pub use Rattle.numbers.specs.Checked.{Checked, checked_number_of}
-- the code's values, and what a proof of code must show
pub use Rattle.std.specs.Int.{w8, w16, w32, w64}
pub use mir.Val.{Fits, SFits, bool_byte, hbits, of_z, to_z}
pub use Rattle.std.proofs.Math.Facts.{Fits-of_z, to_z_inj}
pub use borrow.Author.Rules.{rules, sfits_of}
