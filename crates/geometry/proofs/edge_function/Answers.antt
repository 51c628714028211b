-- `geometry::edge_function` meets its contract: three dot products, each with its own bound, and one more where the edge counts in. Assumes nothing.
use Rattle.geometry.proofs.EdgeNumbers.{sum_fits, function_is}
use Rattle.geometry.proofs.edge_function.Goals as goal

pub overflow_add-result : goal.overflow_add-result
overflow_add-result c =
    let at = c in
    sum_fits at.requires.0 at.requires.1 c.dot_product.ensures c.counts_in.ensures.bounded

pub returns : goal.returns
returns c =
    let at = c in
    function_is at.requires.0 at.requires.1 c.dot_product.ensures c.counts_in.ensures.bounded
    c.dot_product-slope.ensures c.dot_product-drop.ensures c.counts_in.ensures.value
