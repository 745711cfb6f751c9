-- Poses, by document 01's 'Poses': each result in f32, in the order of operations that stands there.
use Rattle.std.specs.Prelude.{Bool, ◌&&◌}
use Rattle.std.specs.Float.Ieee.{neg, le}
use Rattle.floats.specs.Floats.{f32, zero32, one32, is_finite, plus, minus, times}
use Rattle.planar.specs.declared.Rotation.{Rotation}
use Rattle.planar.specs.declared.Point.{Point}
use Rattle.planar.specs.declared.Pose.{Pose}

unfoldable pub rotation_of : Pose → Rotation
rotation_of p = record { re = p.re; im = p.im }

unfoldable pub translation_of : Pose → Point
translation_of p = record { x = p.x; y = p.y }

unfoldable pub posed : Rotation → Point → Pose
posed r t = record { re = r.re; im = r.im; x = t.x; y = t.y }

abbrev pub origin : Point
origin = record { x = zero32; y = zero32 }

abbrev pub identity_pose : Pose
identity_pose = record { re = one32; im = zero32; x = zero32; y = zero32 }

unfoldable pub rotation_product : Rotation → Rotation → Rotation
rotation_product a b = record {
  re = minus (times a.re b.re) (times a.im b.im);
  im = plus (times a.re b.im) (times a.im b.re);
}

unfoldable pub turned_by : Rotation → Point → Point
turned_by r p = record {
  x = minus (times r.re p.x) (times r.im p.y);
  y = plus (times r.im p.x) (times r.re p.y);
}

-- turned, then the translation added
unfoldable pub placed_by : Pose → Point → Point
placed_by a p =
    let t = turned_by (rotation_of a) p in
    record { x = plus t.x a.x; y = plus t.y a.y }

unfoldable pub point_difference : Point → Point → Point
point_difference a b = record { x = minus a.x b.x; y = minus a.y b.y }

unfoldable pub pose_product : Pose → Pose → Pose
pose_product a b = posed (rotation_product (rotation_of a) (rotation_of b)) (placed_by a (translation_of b))

-- (re, −im), and the translation turned by that, then negated
unfoldable pub pose_inverse : Pose → Pose
pose_inverse p =
    let back : Rotation = record { re = p.re; im = neg p.im } in
    let t = turned_by back (translation_of p) in
    posed back (record { x = neg t.x; y = neg t.y })

-- rule 8: (re·re + im·im) − 1 is at most 0.001 either way
unfoldable pub is_turn : Rotation → Bool
is_turn r =
    let excess = minus (plus (times r.re r.re) (times r.im r.im)) one32 in
    le (f32 0xBA83_126F) excess && le excess (f32 0x3A83_126F)

unfoldable pub finite_rotation : Rotation → Bool
finite_rotation r = is_finite r.re && is_finite r.im

unfoldable pub finite_point : Point → Bool
finite_point p = is_finite p.x && is_finite p.y

unfoldable pub finite_pose : Pose → Bool
finite_pose p = finite_rotation (rotation_of p) && finite_point (translation_of p)
