-- The definitions of sections 1, 3 and 7 are evaluated on bit patterns.
-- Assumes nothing.
use Rattle.std.specs.Prelude.{◌≡◌, refl, ℕ, List, [], ◌∷◌, map, replicate, Float, None, Some, Ok}
use Rattle.std.specs.Float.{binary64}
use Rattle.std.specs.Float.Ieee.{size, units, neg, add, sub, mul, div, lt, le, eq, of_bits, to_bits}
use Rattle.spec.specs.declared.Refusal.TheVariants.{CutSheet, Format, OffTheBoard, Blank, ShortSheet, Open}
use Rattle.spec.specs.Refusal.{refused_with}
use Rattle.spec.specs.Lists.{place, holds, range, join, every, distinct, without, renumber, parts, written}
use Rattle.spec.specs.Limits.{max_magnitude}
use Rattle.spec.specs.Float.{eps, zero_f, one_f, abs_f, finite, in_range, zip, add_on, total, dot, root_down, root_units, root, norm}
use Rattle.spec.specs.Matrix.{Matrix, columns, mul_vec, mul_mat, unit, identity, scan, pivot_row, swap_rows, divided, cleared, clear, column, eliminate, gauss_jordan, inverse, times_on, product, determinant}
use Rattle.spec.specs.Hull.{along, project, rest, joins, add_all, hull_of, origin, distance, nearer, smaller, listed_for, listing, classes_from, classes, class_numbers}
use Rattle.spec.specs.Hull.{add as add_point}
use Rattle.spec.specs.Copying.{spread, copies_from, copies, copy_table, orders, signed, axis_order, axis_orders, points, matrices, judge_copy, copy_out, copy_call}
use Rattle.spec.specs.Points.{near, found, find, row_of}
use Rattle.spec.specs.Judged.{◌>>◌, judge}

-- This name on an `unfolding` line opens every definition of sections 1, 3 and 7, except the last ones of copying.
unfoldable pub most : ℕ
unfolding size units neg add sub mul div lt le eq of_bits to_bits place holds range join every distinct without renumber
    eps zero_f one_f max_magnitude abs_f finite in_range zip add_on total dot root_down root_units root norm
    columns mul_vec mul_mat unit identity scan pivot_row swap_rows divided cleared clear column eliminate gauss_jordan inverse times_on product determinant
    along project rest joins add_point add_all hull_of origin distance nearer smaller listed_for listing classes_from classes class_numbers
    near found find spread copies_from copies orders signed axis_order axis_orders parts points matrices ◌>>◌ judge judge_copy copy_call
most = 0

-- This name opens those as well.
unfoldable pub all : ℕ
unfolding most row_of copy_table written copy_out
all = 0

-- Floats are given by their bit patterns.
abbrev vec : List ℕ → List Float
vec l = map (of_bits binary64) l

abbrev mat : List (List ℕ) → List (List Float)
mat l = map vec l

-- ---- roots

-- This is proved, as the trial solids ask: "root of 4 is 2; of 2 is 0x3FF6A09E667F3BCD".
pub root-of_4 : root (of_bits binary64 0x4010_0000_0000_0000) ≡ of_bits binary64 0x4000_0000_0000_0000
unfolding all
root-of_4 = refl

pub root-of_2 : root (of_bits binary64 0x4000_0000_0000_0000) ≡ of_bits binary64 0x3FF6A09E667F3BCD
unfolding all
root-of_2 = refl

-- These are the roots of the zeros, of infinity, of values below zero, and of NaN.
pub odd_roots : map root (vec (0 ∷ 0x8000_0000_0000_0000 ∷ 0x7ff0_0000_0000_0000 ∷ 0xbff0_0000_0000_0000 ∷ 0xfff0_0000_0000_0000 ∷ 0x7ff8_0000_0000_0000 ∷ []))
    ≡ vec (0 ∷ 0x8000_0000_0000_0000 ∷ 0x7ff0_0000_0000_0000 ∷ 0x7ff8_0000_0000_0000 ∷ 0x7ff8_0000_0000_0000 ∷ 0x7ff8_0000_0000_0000 ∷ [])
unfolding all
odd_roots = refl

-- The arguments are the smallest and the largest values, neighbours of 1 (whose roots lie close to a midpoint), squares with their two neighbours,
-- and others. The roots given here are those that the processor computes.
pub roots : map root (vec (
    0x0000_0000_0000_0001 ∷ 0x0000_0000_0000_0002 ∷ 0x0000_0000_0000_0003 ∷ 0x0000_0000_0000_0004 ∷ 0x0000_0000_0000_0005 ∷ 0x000f_ffff_ffff_ffff ∷
    0x0010_0000_0000_0000 ∷ 0x0010_0000_0000_0001 ∷ 0x7fef_ffff_ffff_ffff ∷ 0x7fef_ffff_ffff_fffe ∷ 0x3fef_ffff_ffff_ffff ∷ 0x3fef_ffff_ffff_fffe ∷
    0x3ff0_0000_0000_0001 ∷ 0x3ff0_0000_0000_0003 ∷ 0x3ff0_0000_0000_0005 ∷ 0x3ff0_0000_0000_0065 ∷ 0x4021_ffff_ffff_ffff ∷ 0x4022_0000_0000_0000 ∷
    0x4022_0000_0000_0001 ∷ 0x4340_0000_07c8_4beb ∷ 0x4340_0000_07c8_4bec ∷ 0x4340_0000_07c8_4bed ∷ 0x3d06_849b_86a1_2b99 ∷ 0x3d06_849b_86a1_2b9a ∷
    0x3d06_849b_86a1_2b9b ∷ 0x3f84_7ae1_47ae_147b ∷ 0x3f84_7ae1_47ae_147c ∷ 0x3f84_7ae1_47ae_147d ∷ 0x48db_ac25_2265_b1f6 ∷ 0x66b0_9f18_d8f1_6ae0 ∷
    0x0813_e268_c386_bbc5 ∷ 0x0f17_f5c4_414c_343d ∷ 0x6167_37a2_7ed4_d57c ∷ 0x3c72_8830_7311_d8a4 ∷ 0x3097_3b4b_a6ce_cc1c ∷ 0x1adf_cc96_c9e9_c617 ∷ []))
    ≡ vec (
    0x1e60_0000_0000_0000 ∷ 0x1e66_a09e_667f_3bcd ∷ 0x1e6b_b67a_e858_4caa ∷ 0x1e70_0000_0000_0000 ∷ 0x1e71_e377_9b97_f4a8 ∷ 0x1fff_ffff_ffff_ffff ∷
    0x2000_0000_0000_0000 ∷ 0x2000_0000_0000_0000 ∷ 0x5fef_ffff_ffff_ffff ∷ 0x5fef_ffff_ffff_ffff ∷ 0x3fef_ffff_ffff_ffff ∷ 0x3fef_ffff_ffff_ffff ∷
    0x3ff0_0000_0000_0000 ∷ 0x3ff0_0000_0000_0001 ∷ 0x3ff0_0000_0000_0002 ∷ 0x3ff0_0000_0000_0032 ∷ 0x4007_ffff_ffff_ffff ∷ 0x4008_0000_0000_0000 ∷
    0x4008_0000_0000_0001 ∷ 0x4196_a09e_6bff_ffff ∷ 0x4196_a09e_6c00_0000 ∷ 0x4196_a09e_6c00_0000 ∷ 0x3e7a_d7f2_9abc_af47 ∷ 0x3e7a_d7f2_9abc_af48 ∷
    0x3e7a_d7f2_9abc_af48 ∷ 0x3fb9_9999_9999_999a ∷ 0x3fb9_9999_9999_999a ∷ 0x3fb9_9999_9999_999b ∷ 0x4465_0ab6_14d6_af05 ∷ 0x5350_4eca_6ca6_8c5c ∷
    0x2401_d636_f33b_ff53 ∷ 0x2783_9460_204c_48e7 ∷ 0x50ab_41d7_20b9_db96 ∷ 0x3e31_3832_62b4_d0c5 ∷ 0x3843_4798_f40e_93d6 ∷ 0x2d66_8e69_e2cc_d8fe ∷ [])
unfolding all
roots = refl

-- ---- dots and matrices

pub dot_4 : dot (vec (0x3fb9_9999_9999_999a ∷ 0x3fc9_9999_9999_999a ∷ 0x3fd3_3333_3333_3333 ∷ 0x3fe6_6666_6666_6666 ∷ [])) (vec (0x3fd5_5555_5555_5555 ∷ 0xbfec_cccc_cccc_cccd ∷ 0x4004_0000_0000_0000 ∷ 0x3f50_624d_d2f1_a9fc ∷ [])) ≡ of_bits binary64 0x3fe3_543d_b68b_897d
unfolding all
dot_4 = refl

pub norm_3 : norm (vec (0x3fb9_9999_9999_999a ∷ 0x3fc9_9999_9999_999a ∷ 0x3fd3_3333_3333_3333 ∷ [])) ≡ of_bits binary64 0x3fd7_f254_dab9_cc3b
unfolding all
norm_3 = refl

pub dot-empty : dot [] [] ≡ zero_f
unfolding all
dot-empty = refl

abbrev quarter : Matrix
quarter = mat ((0 ∷ 0xbff0_0000_0000_0000 ∷ []) ∷ (0x3ff0_0000_0000_0000 ∷ 0 ∷ []) ∷ [])

abbrev m3 : Matrix
m3 = mat ((0x3fb9_9999_9999_999a ∷ 0x3fc9_9999_9999_999a ∷ 0x3fd3_3333_3333_3333 ∷ []) ∷ (0xbfe6_6666_6666_6666 ∷ 0x3fd0_0000_0000_0000 ∷ 0x3ff4_cccc_cccc_cccd ∷ []) ∷ (0x3fe6_6666_6666_6666 ∷ 0x4000_0000_0000_0000 ∷ 0xbfe3_3333_3333_3333 ∷ []) ∷ [])

abbrev m4 : Matrix
m4 = mat ((0x3ff0_0000_0000_0000 ∷ 0x3fe0_0000_0000_0000 ∷ 0xbfd0_0000_0000_0000 ∷ 0x4008_0000_0000_0000 ∷ []) ∷ (0x4000_0000_0000_0000 ∷ 0x3ff0_0000_0000_0000 ∷ 0x3fb9_9999_9999_999a ∷ 0xbff0_0000_0000_0000 ∷ []) ∷ (0xc000_0000_0000_0000 ∷ 0x3fd3_3333_3333_3333 ∷ 0x3fe6_6666_6666_6666 ∷ 0x3fec_cccc_cccc_cccd ∷ []) ∷ (0x3fe3_3333_3333_3333 ∷ 0xbff1_9999_9999_999a ∷ 0x4001_9999_9999_999a ∷ 0x3fd9_9999_9999_999a ∷ []) ∷ [])

abbrev flat3 : Matrix
flat3 = mat ((0x3ff0_0000_0000_0000 ∷ 0x4000_0000_0000_0000 ∷ 0x4008_0000_0000_0000 ∷ []) ∷ (0x4000_0000_0000_0000 ∷ 0x4010_0000_0000_0000 ∷ 0x4018_0000_0000_0000 ∷ []) ∷ (0x3ff0_0000_0000_0000 ∷ 0 ∷ 0x3ff0_0000_0000_0000 ∷ []) ∷ [])

pub product_3 : mul_mat m3 flat3 ≡ mat ((0x3fe9_9999_9999_999a ∷ 0x3ff0_0000_0000_0000 ∷ 0x3ffc_cccc_cccc_ccce ∷ []) ∷ (0x3ff1_9999_9999_999a ∷ 0xbfd9_9999_9999_9998 ∷ 0x3fe6_6666_6666_666a ∷ []) ∷ (0x4010_6666_6666_6667 ∷ 0x4022_cccc_cccc_cccd ∷ 0x402b_0000_0000_0000 ∷ []) ∷ [])
unfolding all
product_3 = refl

pub image_3 : mul_vec m3 (vec (0x3fb9_9999_9999_999a ∷ 0x3fc9_9999_9999_999a ∷ 0x3fd3_3333_3333_3333 ∷ [])) ≡ vec (0x3fc1_eb85_1eb8_51ec ∷ 0x3fd7_ae14_7ae1_47ae ∷ 0x3fd2_8f5c_28f5_c290 ∷ [])
unfolding all
image_3 = refl

-- The inverse of a quarter turn takes one swap, and a minus zero comes up on the way.
pub inverse_2 : inverse quarter ≡ Some (mat ((0 ∷ 0x3ff0_0000_0000_0000 ∷ []) ∷ (0xbff0_0000_0000_0000 ∷ 0x8000_0000_0000_0000 ∷ []) ∷ []))
unfolding all
inverse_2 = refl

-- The first column has a tie, and the lowest row is taken.
pub inverse_3 : inverse m3 ≡ Some (mat ((0x4010_efa4_8eae_9bb1 ∷ 0xbff1_bc99_b7de_e436 ∷ 0xbfd2_3aba_6ec1_86ff ∷ []) ∷ (0xbfe8_2443_0161_2866 ∷ 0x3fda_9ae6_93ce_5651 ∷ 0x3fe0_c058_4a19_9ea5 ∷ []) ∷ (0x4003_6648_211b_c99b ∷ 0x3fb7_a622_4a7e_85a1 ∷ 0xbfd0_4237_9336_fbdc ∷ []) ∷ []))
unfolding all
inverse_3 = refl

pub inverse_4 : inverse m4 ≡ Some (mat ((0x3fbd_948a_4109_c65f ∷ 0x3fc0_f6ef_df6f_6e1e ∷ 0xbfd1_f7f3_38ec_a453 ∷ 0x3fb8_b02f_75b5_9da6 ∷ []) ∷ (0x3fac_5dc9_b1ed_ba5a ∷ 0x3fe2_d188_f798_197c ∷ 0x3fe1_cf0f_c7c7_446c ∷ 0xbfc9_480e_87ae_266c ∷ []) ∷ (0xbfac_1c5d_c9b1_edb9 ∷ 0x3fd1_e381_8059_f460 ∷ 0x3fd6_5c61_e070_7177 ∷ 0x3fd4_c37f_74fa_b280 ∷ []) ∷ (0x3fd1_fc09_f770_611c ∷ 0xbfbe_702b_5ef7_19ed ∷ 0x3f9e_aa94_dc07_ec10 ∷ 0x3f9c_79d3_5e99_a458 ∷ []) ∷ []))
unfolding all
inverse_4 = refl

-- A NaN is never strictly larger, so that row 0 stays the pivot's.
pub pivot_no_nan : pivot_row (mat ((0x3ff0_0000_0000_0000 ∷ []) ∷ (0x7ff8_0000_0000_0000 ∷ []) ∷ [])) 0 ≡ 0
unfolding all
pivot_no_nan = refl

-- A singular matrix has no inverse.
pub inverse_flat : inverse flat3 ≡ None
unfolding all
inverse_flat = refl

pub inverse-empty : inverse [] ≡ Some []
unfolding all
inverse-empty = refl

pub determinants : map determinant (quarter ∷ m3 ∷ m4 ∷ flat3 ∷ []) ≡ vec (0x3ff0_0000_0000_0000 ∷ 0xbfe4_c8b4_3958_1062 ∷ 0xc03c_0c8b_4395_8107 ∷ 0 ∷ [])
unfolding all
determinants = refl

-- ---- hulls and distances

pub hull_3 : hull_of 3 (mat ((0x3fd3_3333_3333_3333 ∷ 0x3ffb_3333_3333_3333 ∷ 0xc001_9999_9999_999a ∷ []) ∷ (0x3ff1_9999_9999_999a ∷ 0x3fd9_9999_9999_999a ∷ 0x3fec_cccc_cccc_cccd ∷ []) ∷ (0xbfe6_6666_6666_6666 ∷ 0x4004_0000_0000_0000 ∷ 0x3fb9_9999_9999_999a ∷ []) ∷ []))
    ≡ record { offset = vec (0x3fd3_3333_3333_3333 ∷ 0x3ffb_3333_3333_3333 ∷ 0xc001_9999_9999_999a ∷ []); basis = mat ((0x3fcd_a26f_700f_4df5 ∷ 0xbfd8_13fa_8b0c_6f55 ∷ 0x3fec_b55b_f48e_d385 ∷ []) ∷ (0xbfe4_3d11_ba00_55f2 ∷ 0x3fe4_8f67_b1f4_9866 ∷ 0x3fdb_b091_aaee_599a ∷ []) ∷ []) }
unfolding all
hull_3 = refl

pub distance_3 : distance 3 (hull_of 3 (mat ((0x3fd3_3333_3333_3333 ∷ 0x3ffb_3333_3333_3333 ∷ 0xc001_9999_9999_999a ∷ []) ∷ (0x3ff1_9999_9999_999a ∷ 0x3fd9_9999_9999_999a ∷ 0x3fec_cccc_cccc_cccd ∷ []) ∷ (0xbfe6_6666_6666_6666 ∷ 0x4004_0000_0000_0000 ∷ 0x3fb9_9999_9999_999a ∷ []) ∷ []))) ≡ of_bits binary64 0x3ff2_9104_25ba_539d
unfolding all
distance_3 = refl

-- This hull is all of space, so that its distance from the origin is a rounding error.
pub distance-full : distance 3 (hull_of 3 (mat ((0x3fd3_3333_3333_3333 ∷ 0x3ffb_3333_3333_3333 ∷ 0xc001_9999_9999_999a ∷ []) ∷ (0x3ff1_9999_9999_999a ∷ 0x3fd9_9999_9999_999a ∷ 0x3fec_cccc_cccc_cccd ∷ []) ∷ (0xbfe6_6666_6666_6666 ∷ 0x4004_0000_0000_0000 ∷ 0x3fb9_9999_9999_999a ∷ []) ∷ (0x3fc9_9999_9999_999a ∷ 0x3fc9_9999_9999_999a ∷ 0x3fc9_9999_9999_999a ∷ []) ∷ []))) ≡ of_bits binary64 0x3cc6_d34f_03cd_a114
unfolding all
distance-full = refl

-- The third point lies between the first two, so that the basis has 2 vectors.
pub distance_4 : distance 4 (hull_of 4 (mat ((0x3ff0_0000_0000_0000 ∷ 0x3fe0_0000_0000_0000 ∷ 0xbfd0_0000_0000_0000 ∷ 0x4008_0000_0000_0000 ∷ []) ∷ (0x4000_0000_0000_0000 ∷ 0x3ff0_0000_0000_0000 ∷ 0x3fb9_9999_9999_999a ∷ 0xbff0_0000_0000_0000 ∷ []) ∷ (0x3ff8_0000_0000_0000 ∷ 0x3fe8_0000_0000_0000 ∷ 0xbfb3_3333_3333_3333 ∷ 0x3ff0_0000_0000_0000 ∷ []) ∷ (0x3fe3_3333_3333_3333 ∷ 0xbff1_9999_9999_999a ∷ 0x4001_9999_9999_999a ∷ 0x3fd9_9999_9999_999a ∷ []) ∷ []))) ≡ of_bits binary64 0x3ff8_c6ed_33d7_6472
unfolding all
distance_4 = refl

-- "Stop at D vectors": a basis of one vector in one dimension takes no more, though the point 1 would join.
pub hull_stops : add_all 1 (record { offset = vec (0 ∷ []); basis = mat ((0x3fe0_0000_0000_0000 ∷ []) ∷ []) }) (mat ((0x3ff0_0000_0000_0000 ∷ []) ∷ []))
    ≡ record { offset = vec (0 ∷ []); basis = mat ((0x3fe0_0000_0000_0000 ∷ []) ∷ []) }
unfolding all
hull_stops = refl

-- In no dimensions the distance is 0.
pub hull_0 : distance 0 (hull_of 0 ([] ∷ [])) ≡ zero_f
unfolding all
hull_0 = refl

-- A length has to be "above EPS" to join: EPS itself does not, and the next value does.
pub joins-at-eps : map (λ p. joins (record { offset = vec (0 ∷ []); basis = [] }) (vec (p ∷ []))) (0x3e7a_d7f2_9abc_af48 ∷ 0x3e7a_d7f2_9abc_af49 ∷ []) ≡ None ∷ Some (of_bits binary64 0x3e7a_d7f2_9abc_af49) ∷ []
unfolding all
joins-at-eps = refl

-- Where two listed values are near, the smaller is taken; a distance that is EPS away from them has another class.
pub classes_8 : classes (vec (0x3e84_21f5_f40d_8376 ∷ 0 ∷ 0x3e75_798e_e230_8c3a ∷ 0x3e7a_d7f2_9abc_af48 ∷ 0x3ff0_0000_0000_0000 ∷ 0x3ff0_0000_1ad7_f29a ∷ 0x3ff0_0000_1ad7_f29b ∷ 0x3ff0_0000_35af_e535 ∷ []))
    ≡ vec (0x3e84_21f5_f40d_8376 ∷ 0 ∷ 0 ∷ 0x3e84_21f5_f40d_8376 ∷ 0x3ff0_0000_0000_0000 ∷ 0x3ff0_0000_0000_0000 ∷ 0x3ff0_0000_1ad7_f29b ∷ 0x3ff0_0000_1ad7_f29b ∷ [])
unfolding all
classes_8 = refl

pub classes_8_numbers : class_numbers (vec (0x3e84_21f5_f40d_8376 ∷ 0 ∷ 0x3e75_798e_e230_8c3a ∷ 0x3e7a_d7f2_9abc_af48 ∷ 0x3ff0_0000_0000_0000 ∷ 0x3ff0_0000_1ad7_f29a ∷ 0x3ff0_0000_1ad7_f29b ∷ 0x3ff0_0000_35af_e535 ∷ []))
    ≡ 0 ∷ 1 ∷ 1 ∷ 0 ∷ 2 ∷ 2 ∷ 3 ∷ 3 ∷ []
unfolding all
classes_8_numbers = refl

-- This is proved, as the trial solids ask: at 0 and 1e-7 there are "two vertex types".
pub classes-at-eps : class_numbers (vec (0 ∷ 0x3e7a_d7f2_9abc_af48 ∷ [])) ≡ 0 ∷ 1 ∷ []
unfolding all
classes-at-eps = refl

-- ---- copying

-- This is proved, as the trial solids ask: "A quarter turn alone on (1,0): 14".
pub quarter_alone : copy_call 2 (vec (0x3ff0_0000_0000_0000 ∷ 0 ∷ [])) (vec (0 ∷ 0xbff0_0000_0000_0000 ∷ 0x3ff0_0000_0000_0000 ∷ 0 ∷ [])) (vec (0x401c_0000_0000_0000 ∷ 0x401c_0000_0000_0000 ∷ 0x401c_0000_0000_0000 ∷ 0x401c_0000_0000_0000 ∷ [])) (7 ∷ 7 ∷ 7 ∷ [])
    ≡ (refused_with Open 1, vec (0 ∷ 0x3ff0_0000_0000_0000 ∷ 0x401c_0000_0000_0000 ∷ 0x401c_0000_0000_0000 ∷ []), 65535 ∷ 7 ∷ 7 ∷ [])
unfolding all
quarter_alone = refl

-- Under the identity and a half turn, the second point is found among the copies and is passed over. The cells past the answer stay as they were.
pub half_turn : copy_call 2 (vec (0x3ff0_0000_0000_0000 ∷ 0x4000_0000_0000_0000 ∷ 0xbff0_0000_0000_0000 ∷ 0xc000_0000_0000_0000 ∷ [])) (vec (0x3ff0_0000_0000_0000 ∷ 0 ∷ 0 ∷ 0x3ff0_0000_0000_0000 ∷ 0xbff0_0000_0000_0000 ∷ 0 ∷ 0 ∷ 0xbff0_0000_0000_0000 ∷ [])) (vec (0x401c_0000_0000_0000 ∷ 0x401c_0000_0000_0000 ∷ 0x401c_0000_0000_0000 ∷ 0x401c_0000_0000_0000 ∷ 0x401c_0000_0000_0000 ∷ [])) (7 ∷ 7 ∷ 7 ∷ 7 ∷ 7 ∷ [])
    ≡ (Ok 2, vec (0x3ff0_0000_0000_0000 ∷ 0x4000_0000_0000_0000 ∷ 0xbff0_0000_0000_0000 ∷ 0xc000_0000_0000_0000 ∷ 0x401c_0000_0000_0000 ∷ []), 0 ∷ 1 ∷ 1 ∷ 0 ∷ 7 ∷ [])
unfolding all
half_turn = refl

-- The point 1 is copied under the matrices [2] and [3], and an image is not multiplied again.
pub images_once : copies (mat ((0x4000_0000_0000_0000 ∷ []) ∷ []) ∷ mat ((0x4008_0000_0000_0000 ∷ []) ∷ []) ∷ []) (mat ((0x3ff0_0000_0000_0000 ∷ []) ∷ []))
    ≡ mat ((0x4000_0000_0000_0000 ∷ []) ∷ (0x4008_0000_0000_0000 ∷ []) ∷ [])
unfolding all
images_once = refl

-- A point that is near both points finds the lowest number, and a point that is near none finds how many there are.
pub lowest_found : map (find (mat ((0 ∷ []) ∷ (0x3e80_0000_0000_0000 ∷ []) ∷ []))) (mat ((0x3e70_0000_0000_0000 ∷ []) ∷ (0x3ff0_0000_0000_0000 ∷ []) ∷ [])) ≡ 0 ∷ 2 ∷ []
unfolding all
lowest_found = refl

-- A point that is EPS away from a copy, and as rounded beyond EPS, is not found and joins.
pub near-copies : copy_call 2 (vec (0x3ff0_0000_0000_0000 ∷ 0 ∷ 0x3ff0_0000_1ad7_f29b ∷ 0 ∷ [])) (vec (0x3ff0_0000_0000_0000 ∷ 0 ∷ 0 ∷ 0x3ff0_0000_0000_0000 ∷ [])) (vec (0x401c_0000_0000_0000 ∷ 0x401c_0000_0000_0000 ∷ 0x401c_0000_0000_0000 ∷ 0x401c_0000_0000_0000 ∷ [])) (7 ∷ 7 ∷ [])
    ≡ (Ok 2, vec (0x3ff0_0000_0000_0000 ∷ 0 ∷ 0x3ff0_0000_1ad7_f29b ∷ 0 ∷ []), 0 ∷ 1 ∷ [])
unfolding all
near-copies = refl

-- Half of the first point is within EPS of both copies. The lower number is found, and not the lower coordinate.
pub lowest_number : copy_call 1 (vec (0x3e85_798e_e230_8c3a ∷ 0 ∷ [])) (vec (0x3ff0_0000_0000_0000 ∷ 0x3fe0_0000_0000_0000 ∷ [])) (vec (0x401c_0000_0000_0000 ∷ 0x401c_0000_0000_0000 ∷ [])) (7 ∷ 7 ∷ 7 ∷ 7 ∷ [])
    ≡ (Ok 2, vec (0x3e85_798e_e230_8c3a ∷ 0 ∷ []), 0 ∷ 1 ∷ 0 ∷ 1 ∷ [])
unfolding all
lowest_number = refl

-- 2 comes first: D is 5, and a length is broken too.
pub refused_2 : copy_call 5 (vec (0x3ff0_0000_0000_0000 ∷ [])) (vec (0x3ff0_0000_0000_0000 ∷ [])) (vec (0x401c_0000_0000_0000 ∷ [])) (7 ∷ [])
    ≡ (refused_with Format 0, vec (0x401c_0000_0000_0000 ∷ []), 7 ∷ [])
unfolding all
refused_2 = refl

-- 2 comes where D is 0.
pub refused_2_0 : copy_call 0 (vec ([])) (vec ([])) (vec (0x401c_0000_0000_0000 ∷ [])) (7 ∷ [])
    ≡ (refused_with Format 0, vec (0x401c_0000_0000_0000 ∷ []), 7 ∷ [])
unfolding all
refused_2_0 = refl

-- 1 comes for a point and a half.
pub refused_1 : copy_call 2 (vec (0x3ff0_0000_0000_0000 ∷ 0 ∷ 0x3ff0_0000_0000_0000 ∷ [])) (vec (0 ∷ 0xbff0_0000_0000_0000 ∷ 0x3ff0_0000_0000_0000 ∷ 0 ∷ [])) (vec (0x401c_0000_0000_0000 ∷ 0x401c_0000_0000_0000 ∷ 0x401c_0000_0000_0000 ∷ 0x401c_0000_0000_0000 ∷ [])) (7 ∷ [])
    ≡ (refused_with CutSheet 0, vec (0x401c_0000_0000_0000 ∷ 0x401c_0000_0000_0000 ∷ 0x401c_0000_0000_0000 ∷ 0x401c_0000_0000_0000 ∷ []), 7 ∷ [])
unfolding all
refused_1 = refl

-- 1 comes for a matrix and one more entry, and before 3, although that entry is not finite.
pub refused_1_matrix : copy_call 2 (vec (0x3ff0_0000_0000_0000 ∷ 0 ∷ [])) (vec (0 ∷ 0xbff0_0000_0000_0000 ∷ 0x3ff0_0000_0000_0000 ∷ 0 ∷ 0x7ff0_0000_0000_0000 ∷ [])) (vec (0x401c_0000_0000_0000 ∷ 0x401c_0000_0000_0000 ∷ 0x401c_0000_0000_0000 ∷ 0x401c_0000_0000_0000 ∷ [])) (7 ∷ [])
    ≡ (refused_with CutSheet 0, vec (0x401c_0000_0000_0000 ∷ 0x401c_0000_0000_0000 ∷ 0x401c_0000_0000_0000 ∷ 0x401c_0000_0000_0000 ∷ []), 7 ∷ [])
unfolding all
refused_1_matrix = refl

-- 3 comes for a coordinate that is too large.
pub refused_3 : copy_call 2 (vec (0x3ff0_0000_0000_0000 ∷ 0x4130_0001_0000_0000 ∷ [])) (vec (0 ∷ 0xbff0_0000_0000_0000 ∷ 0x3ff0_0000_0000_0000 ∷ 0 ∷ [])) (vec (0x401c_0000_0000_0000 ∷ 0x401c_0000_0000_0000 ∷ 0x401c_0000_0000_0000 ∷ 0x401c_0000_0000_0000 ∷ [])) (7 ∷ [])
    ≡ (refused_with OffTheBoard 0, vec (0x401c_0000_0000_0000 ∷ 0x401c_0000_0000_0000 ∷ 0x401c_0000_0000_0000 ∷ 0x401c_0000_0000_0000 ∷ []), 7 ∷ [])
unfolding all
refused_3 = refl

-- 3 comes for a matrix entry that is not a number, and before 12, although there are no points.
pub refused_3_nan : copy_call 2 (vec ([])) (vec (0 ∷ 0x3ff0_0000_0000_0000 ∷ 0x7ff8_0000_0000_0000 ∷ 0 ∷ [])) (vec (0x401c_0000_0000_0000 ∷ 0x401c_0000_0000_0000 ∷ 0x401c_0000_0000_0000 ∷ 0x401c_0000_0000_0000 ∷ [])) (7 ∷ [])
    ≡ (refused_with OffTheBoard 0, vec (0x401c_0000_0000_0000 ∷ 0x401c_0000_0000_0000 ∷ 0x401c_0000_0000_0000 ∷ 0x401c_0000_0000_0000 ∷ []), 7 ∷ [])
unfolding all
refused_3_nan = refl

-- The largest magnitude that is allowed passes.
pub at_the_limit : copy_call 1 (vec (0xc130_0000_0000_0000 ∷ [])) (vec (0x3ff0_0000_0000_0000 ∷ [])) (vec (0x401c_0000_0000_0000 ∷ [])) (7 ∷ [])
    ≡ (Ok 1, vec (0xc130_0000_0000_0000 ∷ []), 0 ∷ [])
unfolding all
at_the_limit = refl

-- 12 comes where there are no points.
pub refused_12 : copy_call 2 (vec ([])) (vec (0 ∷ 0xbff0_0000_0000_0000 ∷ 0x3ff0_0000_0000_0000 ∷ 0 ∷ [])) (vec (0x401c_0000_0000_0000 ∷ 0x401c_0000_0000_0000 ∷ 0x401c_0000_0000_0000 ∷ 0x401c_0000_0000_0000 ∷ [])) (7 ∷ [])
    ≡ (refused_with Blank 0, vec (0x401c_0000_0000_0000 ∷ 0x401c_0000_0000_0000 ∷ 0x401c_0000_0000_0000 ∷ 0x401c_0000_0000_0000 ∷ []), 7 ∷ [])
unfolding all
refused_12 = refl

-- 12 comes where there are no matrices.
pub refused_12_matrices : copy_call 2 (vec (0x3ff0_0000_0000_0000 ∷ 0 ∷ [])) (vec ([])) (vec (0x401c_0000_0000_0000 ∷ 0x401c_0000_0000_0000 ∷ 0x401c_0000_0000_0000 ∷ 0x401c_0000_0000_0000 ∷ [])) (7 ∷ [])
    ≡ (refused_with Blank 0, vec (0x401c_0000_0000_0000 ∷ 0x401c_0000_0000_0000 ∷ 0x401c_0000_0000_0000 ∷ 0x401c_0000_0000_0000 ∷ []), 7 ∷ [])
unfolding all
refused_12_matrices = refl

-- 13 comes where there is room for one point and a half. The point that fitted is kept.
pub refused_13_points : copy_call 2 (vec (0x3ff0_0000_0000_0000 ∷ 0x4000_0000_0000_0000 ∷ [])) (vec (0x3ff0_0000_0000_0000 ∷ 0 ∷ 0 ∷ 0x3ff0_0000_0000_0000 ∷ 0xbff0_0000_0000_0000 ∷ 0 ∷ 0 ∷ 0xbff0_0000_0000_0000 ∷ [])) (vec (0x401c_0000_0000_0000 ∷ 0x401c_0000_0000_0000 ∷ 0x401c_0000_0000_0000 ∷ [])) (7 ∷ 7 ∷ 7 ∷ 7 ∷ 7 ∷ 7 ∷ 7 ∷ 7 ∷ 7 ∷ [])
    ≡ (refused_with ShortSheet 1, vec (0x3ff0_0000_0000_0000 ∷ 0x4000_0000_0000_0000 ∷ 0x401c_0000_0000_0000 ∷ []), 7 ∷ 7 ∷ 7 ∷ 7 ∷ 7 ∷ 7 ∷ 7 ∷ 7 ∷ 7 ∷ [])
unfolding all
refused_13_points = refl

-- 13 comes where the points fit and the table does not.
pub refused_13_table : copy_call 2 (vec (0x3ff0_0000_0000_0000 ∷ 0x4000_0000_0000_0000 ∷ [])) (vec (0x3ff0_0000_0000_0000 ∷ 0 ∷ 0 ∷ 0x3ff0_0000_0000_0000 ∷ 0xbff0_0000_0000_0000 ∷ 0 ∷ 0 ∷ 0xbff0_0000_0000_0000 ∷ [])) (vec (0x401c_0000_0000_0000 ∷ 0x401c_0000_0000_0000 ∷ 0x401c_0000_0000_0000 ∷ 0x401c_0000_0000_0000 ∷ 0x401c_0000_0000_0000 ∷ [])) (7 ∷ 7 ∷ 7 ∷ [])
    ≡ (refused_with ShortSheet 2, vec (0x3ff0_0000_0000_0000 ∷ 0x4000_0000_0000_0000 ∷ 0xbff0_0000_0000_0000 ∷ 0xc000_0000_0000_0000 ∷ 0x401c_0000_0000_0000 ∷ []), 7 ∷ 7 ∷ 7 ∷ [])
unfolding all
refused_13_table = refl

-- 13 comes before 14.
pub refused_13_before_14 : copy_call 2 (vec (0x3ff0_0000_0000_0000 ∷ 0 ∷ [])) (vec (0 ∷ 0xbff0_0000_0000_0000 ∷ 0x3ff0_0000_0000_0000 ∷ 0 ∷ [])) (vec (0x401c_0000_0000_0000 ∷ 0x401c_0000_0000_0000 ∷ 0x401c_0000_0000_0000 ∷ 0x401c_0000_0000_0000 ∷ [])) ([])
    ≡ (refused_with ShortSheet 1, vec (0 ∷ 0x3ff0_0000_0000_0000 ∷ 0x401c_0000_0000_0000 ∷ 0x401c_0000_0000_0000 ∷ []), [])
unfolding all
refused_13_before_14 = refl

-- 13 comes for "copies over 2,048", whatever room there is: an output of 4,096 cells has room for 2,048 points of one coordinate, and of 2,049 copies the first
-- 2,048 are kept.
pub room_2048 : copy_call 1 (one_f ∷ []) (one_f ∷ []) (replicate 4096 zero_f) [] ≡ copy_out 2048 (((one_f ∷ []) ∷ []) ∷ []) ((one_f ∷ []) ∷ []) (replicate 4096 zero_f) []
unfolding most
room_2048 = refl

pub copies_2049 : (copy_out 2048 [] (replicate 2049 []) [] []).0 ≡ refused_with ShortSheet 2048
unfolding all
copies_2049 = refl
