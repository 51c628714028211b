-- `call::axes_proper` meets its contract: each vector's parts are asked, and then the sign of the product.
use native.Mathlib.Omega.{arith}
use borrow.Author.Rules.{rules}
use Rattle.model.specs.Questions.{axes_proper}
use Rattle.geometry.specs.Machine.{vec_of}
use Rattle.call.proofs.Axes.{first_short, second_short, third_short, range_decides, product_decides, product_sign}
use Rattle.call.proofs.axes_proper.Goals as goal

pub cross_product-requires : goal.cross_product-requires
cross_product-requires c = (
  second_short c.args.axes.right c.args.axes.forward c.args.axes.up c.axes_in_range.ensures c.if-axes_in_range.true (omega arith),
  third_short c.args.axes.right c.args.axes.forward c.args.axes.up c.axes_in_range.ensures c.if-axes_in_range.true (omega arith),
)

pub dot_product-requires : goal.dot_product-requires
dot_product-requires c = (
  first_short c.args.axes.right c.args.axes.forward c.args.axes.up c.axes_in_range.ensures c.if-axes_in_range.true (omega arith),
  c.cross_product.ensures.bounded,
)

pub returns-then-axes_in_range : goal.returns-then-axes_in_range
unfolding axes_proper
returns-then-axes_in_range c =
    product_decides c.axes_in_range.ensures c.if-axes_in_range.true (product_sign (vec_of c.args.axes.right) (vec_of c.args.axes.forward) (vec_of c.args.axes.up) c.cross_product.ensures c.dot_product.ensures (search rules))

pub returns-else-axes_in_range : goal.returns-else-axes_in_range
unfolding axes_proper
returns-else-axes_in_range c = range_decides _ c.axes_in_range.ensures c.if-axes_in_range.false
