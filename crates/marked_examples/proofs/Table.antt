-- The marked examples hold of the definitions: both columns compute to the same numbers.
use mathlib.Core.Path.{refl}
use lib.Ieee.{of_bits, to_bits, add, sub, mul, div, lt, eq}
use Rattle.std.specs.Float.{float_is_finite}
use Rattle.lists.specs.Numbers.{all_below, count_below, last_that}
use Rattle.refusal.specs.Refusal.{lower_of}
use Rattle.refusal.specs.Counted.{counted_of, filled}
use Rattle.masks.specs.Masks.{bit_of, is_free, dofs_below, dofs_of, damping_of, damping_below, damping_row, constraints_at, constraints_of}
use Rattle.masks.specs.Starts.{total_of, start_of, starts_to, starts_of}
use Rattle.masks.specs.Answers.{starts_refusal, starts_answer, damping_refusal, damping_answer, constraints_answer}
use Rattle.planar.specs.Poses.{rotation_of, translation_of, finite_rotation, finite_point, finite_pose}
use Rattle.planar.specs.Rotation.{is_beyond}
use Rattle.topology.specs.Parents.{parent_fits, parents_fit, way_to, branch}
use Rattle.topology.specs.Split.{is_head, rank, part_count, nearest_head, part_of, is_in, number_of, part_byte, number_byte, split_map}
use Rattle.topology.specs.Answers.{refusal_of, split_answer}
use Rattle.elimination.specs.Elimination.{greatest, reduced_row, reduced, columns}
use Rattle.solve.specs.Solve.{permuted, forward, backward, substituted, solution}
use Rattle.multibody_joint.specs.Joint.{new_joint, fixed_joint}
use Rattle.arm.specs.Setters.{unplaced}
use Rattle.arm.specs.Empty.{empty_arm}
use Rattle.arm.specs.Arm.{links_of, couplings_of, tags_of, parents_of, masks_of, mask_at, start_at, dof_count_of, rows_of}
use Rattle.arm.specs.Edits.{dof_at}
use Rattle.arm.specs.HandedIn.{unique, tags_unique, parents_earlier, coupling_links_fit, joint_masks_fit, root_fits, coupling_axes_fit}
use Rattle.multibody_joint.specs.Joint.{joint_finite}
use Rattle.arm.specs.HandedIn.{link_finite, coupling_finite, rows_finite, angle_fits, arm_rules, arm_refusal}
use Rattle.unit_multibody_joint.specs.Outcome.{or_then, answered, solved_answer}
use Rattle.unit_multibody_joint.specs.Rows.{positive, lower_bound, upper_bound, limit_bounds, inverse, row_of, row_answer, unit_row, lhs_at}
use Rattle.unit_multibody_joint.specs.Refusals.{row_refusal}
use Rattle.unit_multibody_joint.specs.Answers.{axis_answer, limit_answer}
use Rattle.marked_examples.specs.Marked.{answer, marked, Hold}

pub all_hold : Hold marked
unfolding answer of_bits to_bits add sub mul div lt eq all_below count_below last_that lower_of counted_of filled bit_of is_free dofs_below dofs_of
    damping_of damping_below damping_row constraints_at constraints_of total_of start_of starts_to starts_of starts_refusal starts_answer
    damping_refusal damping_answer constraints_answer rotation_of translation_of finite_rotation finite_point finite_pose is_beyond parent_fits
    parents_fit way_to branch is_head rank part_count nearest_head part_of is_in number_of part_byte number_byte split_map refusal_of split_answer
    greatest reduced_row reduced columns permuted forward backward substituted solution new_joint fixed_joint unplaced empty_arm links_of
    couplings_of tags_of parents_of masks_of mask_at start_at dof_count_of rows_of dof_at unique tags_unique parents_earlier coupling_links_fit
    joint_masks_fit root_fits coupling_axes_fit joint_finite link_finite coupling_finite rows_finite angle_fits arm_rules arm_refusal or_then answered
    solved_answer positive lower_bound upper_bound limit_bounds inverse row_of row_answer unit_row lhs_at row_refusal
    axis_answer limit_answer float_is_finite
all_hold = refl
