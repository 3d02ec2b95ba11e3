use Rattle.ws_isa.specs.View as view
use Rattle.asm_read.proofs.Assemblies.{bad_of}
use Rattle.asm_read.proofs.assembly.checked.Goals as goal

pub returns-in-Err-Refused-check_image-clause-refused : goal.returns-in-Err-Refused-check_image-clause-refused
returns-in-Err-Refused-check_image-clause-refused c = (
  view.image c.in-Ok.image,
  c.in-Ok.ensures.exact,
  bad_of _ c.in-Err-Refused-check_image.field-0 c.in-Err-Refused-check_image.bad (cc)
      c.in-Err-Refused-check_image.ensures.refused,
)
