use Rattle.std.proofs.Common.{List, length, ap}
use Rattle.ws_words.specs.Outside.{opening_out}
use Rattle.ws_words.specs.Plain.{world_of}
use Rattle.src_ast.specs.Meaning.{empty_cells}
use Rattle.seq_run.specs.Resolved.{run}
use Rattle.seq_run.specs.View as view
use Rattle.seq_run.specs.declared.tree.Proc.{Proc}
use Rattle.seq_run.specs.declared.flow.Reply.TheVariants as replies
use Rattle.seq_run.proofs.Whole.{reply_is, says_ended, says_fault, says_going}
use Rattle.seq_run.proofs.plain.run_resolved.Goals as goal

pub returns-in-Value : goal.returns-in-Value
returns-in-Value c =
    let program = view.program c.args.resolved.now in let world = world_of c.args.world.now in let after =
    c.run_call.new.run in
    says_ended (opening_out (empty_cells program.lengths) world) (run program world) c.args.turns after.turns
    after.memory c.in-Value.field-0 c.in_ok-reply.ensures.turns
    (reply_is c.args.resolved.now world c.args.turns (length c.as_slice-procs.result.now) c.deref.result.now
    c.as_slice-procs.result.now c.empty-args.result c.in_ok-reply.reply (replies.Value c.in-Value.field-0)
    c.in_ok-cells.cells c.in_ok-memory.memory after.memory after.turns c.requires
    (ap (λ (ps : List Proc). length ps) c.as_slice-procs.ensures.value) c.deref.ensures.value
    c.as_slice-procs.ensures.value c.empty-args.ensures c.in-Value.is c.in_ok-cells.ensures
    c.in_ok-memory.ensures c.in_ok-reply.ensures.follows)

pub returns-in-Fault : goal.returns-in-Fault
returns-in-Fault c =
    let program = view.program c.args.resolved.now in let world = world_of c.args.world.now in let after =
    c.run_call.new.run in
    says_fault (opening_out (empty_cells program.lengths) world) (run program world) c.args.turns after.turns
    after.memory c.in-Fault.array
    (reply_is c.args.resolved.now world c.args.turns (length c.as_slice-procs.result.now) c.deref.result.now
    c.as_slice-procs.result.now c.empty-args.result c.in_ok-reply.reply (replies.Fault c.in-Fault.array)
    c.in_ok-cells.cells c.in_ok-memory.memory after.memory after.turns c.requires
    (ap (λ (ps : List Proc). length ps) c.as_slice-procs.ensures.value) c.deref.ensures.value
    c.as_slice-procs.ensures.value c.empty-args.ensures c.in-Fault.is c.in_ok-cells.ensures
    c.in_ok-memory.ensures c.in_ok-reply.ensures.follows)

pub returns-in-Out : goal.returns-in-Out
returns-in-Out c =
    let program = view.program c.args.resolved.now in let world = world_of c.args.world.now in let after =
    c.run_call.new.run in
    says_going (opening_out (empty_cells program.lengths) world) (run program world) c.args.turns after.turns
    after.memory
    (reply_is c.args.resolved.now world c.args.turns (length c.as_slice-procs.result.now) c.deref.result.now
    c.as_slice-procs.result.now c.empty-args.result c.in_ok-reply.reply replies.Out c.in_ok-cells.cells
    c.in_ok-memory.memory after.memory after.turns c.requires
    (ap (λ (ps : List Proc). length ps) c.as_slice-procs.ensures.value) c.deref.ensures.value
    c.as_slice-procs.ensures.value c.empty-args.ensures c.in-Out.is c.in_ok-cells.ensures
    c.in_ok-memory.ensures c.in_ok-reply.ensures.follows)
