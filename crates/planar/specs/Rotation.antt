-- The rotation of an angle, by document 01's 'Rotation'. Each constant stands by its f32 bits, each sum and product in its order.
use Rattle.std.specs.Prelude.{ℕ, zero, suc, ◌+◌, ◌-◌, ◌*◌, ◌%◌, Bool, cond, not, ◌||◌, [], ◌∷◌, pos, Float, Result, Ok, Err}
use Rattle.std.specs.Float.{binary32}
use Rattle.std.specs.Float.Ieee.{of_int, neg, lt, le}
use Rattle.floats.specs.Floats.{f32, zero32, is_finite, plus, minus, times}
use Rattle.refusal.specs.declared.Refusal.{Refusal}
use Rattle.refusal.specs.Refusal.{number, lowest, unless_of}
use Rattle.planar.specs.declared.Rotation.{Rotation}
use Rattle.planar.specs.declared.Rotated.{Rotated}

-- ---- the count of quarter turns

-- the j-th threshold: (2j − 1) · 0.7853982
unfoldable pub threshold : ℕ → Float
threshold j = times (of_int binary32 (pos (2 * j - 1))) (f32 0x3F49_0FDB)

-- how many j from 1 to n have their threshold at most a
unfoldable pub count_to : ℕ → Float → ℕ
count_to zero a = 0
count_to (suc n) a = count_to n a + cond (le (threshold (suc n)) a) 1 0

unfoldable pub quarter_turns : Float → ℕ
quarter_turns a = count_to 163 a

-- ---- the remainder, its sine and its cosine

abbrev pub magnitude_of : Float → Float
magnitude_of t = cond (lt t zero32) (neg t) t

-- a less k quarter turns: 1.5703125, 0.0004837512969970703125 and 7.54978995489188e-8 of each
abbrev pub reduced_by : Float → Float → Float
reduced_by a k = minus (minus (minus a (times k (f32 0x3FC9_0000))) (times k (f32 0x39FD_A000))) (times k (f32 0x33A2_2169))

-- a coefficient, and z times what follows
abbrev pub term : ℕ → Float → Float → Float
term bits z rest = plus (f32 bits) (times z rest)

-- r + r·(z·(a3 + z·(a5 + z·(a7 + z·a9))))
abbrev pub sine_of : Float → Float
sine_of r =
    let z = times r r in
    plus r (times r (times z (term 0xBE2A_AAAB z (term 0x3C08_8889 z (term 0xB950_0D01 z (f32 0x3638_EF1D))))))

-- 1 + z·(−0.5 + z·(c4 + z·(c6 + z·c8)))
abbrev pub cosine_of : Float → Float
cosine_of r =
    let z = times r r in
    term 0x3F80_0000 z (term 0xBF00_0000 z (term 0x3D2A_AAAB z (term 0xBAB6_0B61 z (f32 0x37D0_0D01))))

-- ---- the pair

-- by k mod 4
abbrev pub pair_by : ℕ → Float → Float → Rotation
pair_by zero c s = record { re = c; im = s }
pair_by (suc zero) c s = record { re = neg s; im = c }
pair_by (suc (suc zero)) c s = record { re = neg c; im = neg s }
pair_by (suc (suc (suc n))) c s = record { re = s; im = neg c }

abbrev pub quarter_pair : ℕ → Float → Float → Rotation
quarter_pair k c s = pair_by (k % 4) c s

-- a negative angle negates im
abbrev pub signed_by : Float → Rotation → Rotation
signed_by t r = cond (lt t zero32) (record { re = r.re; im = neg r.im }) r

unfoldable pub rotation_at : Float → Rotation
rotation_at t =
    let a = magnitude_of t in
    let k = quarter_turns a in
    let r = reduced_by a (of_int binary32 (pos k)) in
    signed_by t (quarter_pair k (cosine_of r) (sine_of r))

-- ---- the call

-- beyond 256 either way
unfoldable pub is_beyond : Float → Bool
is_beyond t = lt t (f32 0xC380_0000) || lt (f32 0x4380_0000) t

unfoldable pub rotation_refusal : Float → ℕ
rotation_refusal t = lowest (unless_of (is_finite t) 7 ∷ unless_of (not (is_beyond t)) 9 ∷ [])

-- refused: the number, and a pair of zeros
abbrev pub rotated_by : ℕ → Rotation → Rotated
rotated_by zero r = record { refusal = 0; rotation = r }
rotated_by (suc k) r = record { refusal = suc k; rotation = record { re = zero32; im = zero32 } }

unfoldable pub rotated : Float → Rotated
rotated t = rotated_by (rotation_refusal t) (rotation_at t)

-- what C is told of a rotation
abbrev pub rotated_as : Result Rotation Refusal → Rotated
rotated_as (Ok r) = record { refusal = 0; rotation = r }
rotated_as (Err e) = record { refusal = number e; rotation = record { re = zero32; im = zero32 } }
