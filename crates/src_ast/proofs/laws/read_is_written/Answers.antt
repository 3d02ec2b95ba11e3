use Rattle.src_ast.proofs.Fits.{read_is_written}
use Rattle.src_ast.proofs.laws.read_is_written.Goals as goal

pub returns : goal.returns
returns c = read_is_written
