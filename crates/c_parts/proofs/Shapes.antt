-- The trees of what holds a vector, a struct or an option, as `c_tree` shows them.
pub use Rattle.c_tree.proofs.Shapes.{call_shape, sizeof_shape, cast_shape, composite_shape, enumeration_shape, nested_shape, array_shape, function_shape, member_shape}
