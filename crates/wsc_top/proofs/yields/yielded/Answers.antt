use Rattle.std.proofs.Common.{◌∙◌, sym, subst}
use Rattle.src_ast.specs.View as view
use Rattle.wsc_top.specs.declared.status.Status.TheVariants.{Done}
use Rattle.std.specs.Prelude.{None}
use Rattle.wsc_top.specs.Answers.{Yields}
use Rattle.wsc_top.proofs.Calling.Calls.{err_same, compile_begun}
use Rattle.wsc_top.proofs.Calling.Outcomes.{format_yields}
use Rattle.wsc_top.proofs.yields.yielded.Goals as goal

pub returns-in_ok-text-in-Format-clause-ok : goal.returns-in_ok-text-in-Format-clause-ok
returns-in_ok-text-in-Format-clause-ok c handed = subst (λ d. Yields d (view.parts
    c.args.accepted.now.program.items.items) c.args.input handed Done c.built.result None handed) (sym
    c.in-Format.is) (format_yields (view.parts c.args.accepted.now.program.items.items) _
    (c.printed_reads_the_same.ensures _ c.requires) (c.built.ensures ∙ c.in_ok-text-in-Format.ensures)
    c.args.input handed)

pub returns-in_err-image-in-Compile-clause-begun : goal.returns-in_err-image-in-Compile-clause-begun
returns-in_err-image-in-Compile-clause-begun c = err_same _ _ c.in_err-image-in-Compile.field-0.0
    c.from_residual-in_err-image-in-Compile.ensures.1 (compile_begun c.args.task (view.parts
    c.args.accepted.now.program.items.items) _ (cc) c.in_err-image-in-Compile.ensures.begun)
