use Rattle.std.proofs.Common.{◌∙◌, ap}
use Rattle.df_core.specs.Places.{image_of}
use Rattle.ws_isa.specs.View as view
use Rattle.df_core.proofs.Parts.Look.{note_is, note_none, unwrapped}
use Rattle.df_core.proofs.program.Program.note.Goals as goal
use Rattle.ws_words.specs.Items.{or_else}

pub returns-in-Some : goal.returns-in-Some
returns-in-Some c = let i = c.in-Some.place.instr.now in
    c.unwrap_or.ensures ∙ unwrapped i.note c.no_note.result ∙ ap (λ d. or_else i.note d) c.no_note.ensures
    ∙ note_is (image_of c.args.self.now) c.args.number (view.instr i) c.in-Some.ensures.instr

pub returns-in-None : goal.returns-in-None
returns-in-None c = c.no_note-in-None.ensures ∙ note_none (image_of c.args.self.now) c.args.number
    c.in-None.ensures
