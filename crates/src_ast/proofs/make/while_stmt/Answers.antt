use Rattle.std.proofs.Common.{rules}
use Rattle.src_ast.specs.declared.tree.Form.TheViews.{the_lemmas}
use Rattle.src_ast.specs.View.{row_of_items}
use Rattle.src_ast.proofs.make.while_stmt.Goals as goal

pub returns : goal.returns
returns c = search (rules, the_lemmas, row_of_items)
