use Rattle.std.proofs.Common.{sym, subst}
use Rattle.ws_isa.specs.View as view
use Rattle.asm_link.specs.Linked.{Linked}
use Rattle.asm_link.proofs.Renoted.{draft_bare, draft_walkable, draft_within, draft_formed, linked_with}
use Rattle.asm_link.proofs.Renoted.{linked_plain}
use Rattle.asm_link.proofs.linker.renoted.Goals as goal

pub with_needed-requires-clause-bare : goal.with_needed-requires-clause-bare
with_needed-requires-clause-bare c = draft_bare (view.image c.args.image) (view.draft c.in_ok-draft.draft)
    c.in_ok-draft.ensures

pub with_needed-requires-clause-walkable : goal.with_needed-requires-clause-walkable
with_needed-requires-clause-walkable c = draft_walkable (view.image c.args.image)
    (view.draft c.in_ok-draft.draft) c.in_ok-draft.ensures c.requires.formed c.requires.shape c.requires.slots

pub with_needed-requires-clause-limits : goal.with_needed-requires-clause-limits
with_needed-requires-clause-limits c = draft_within (view.image c.args.image)
    (view.draft c.in_ok-draft.draft) c.in_ok-draft.ensures c.requires.formed

pub plain-requires : goal.plain-requires
plain-requires c = record {
  formed = draft_formed (view.image c.args.image) (view.draft c.in_ok-draft.draft) c.in_ok-draft.ensures
      c.requires.formed;
}

pub returns-in-Ok-clause-linked : goal.returns-in-Ok-clause-linked
returns-in-Ok-clause-linked c = subst (Linked (view.image c.args.image)) (sym c.from_sound.ensures)
    (linked_with (view.image c.args.image) (view.draft c.in_ok-draft.draft) (view.image c.in-Ok.made)
    c.in_ok-draft.ensures c.in-Ok.ensures.formed c.in-Ok.ensures.noted c.in-Ok.ensures.none
    c.in-Ok.ensures.numbers c.in-Ok.ensures.ripples)

pub returns-in_ok-made-in-Err-Unfitting-clause-linked :
    goal.returns-in_ok-made-in-Err-Unfitting-clause-linked
returns-in_ok-made-in-Err-Unfitting-clause-linked c = linked_plain (view.image c.args.image)
    (view.draft c.in_ok-draft.draft) c.in_ok-made-in-Err-Unfitting.made c.in_ok-draft.ensures
    c.in_ok-made-in-Err-Unfitting.ensures.made c.image.ensures.formed c.image.ensures.sound
