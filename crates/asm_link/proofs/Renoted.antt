-- What comes of an image whose shape and slots are right.
use Rattle.std.proofs.Common.{◌≡◌, Some, None, sym, subst, arith}
use Rattle.ws_isa.specs.Image.{Image}
use Rattle.ws_isa.specs.Formed.{Formed, NoNotes}
use Rattle.ws_isa.specs.Sound.{Sound, ShapeRules, SlotRules}
use Rattle.ws_isa.specs.Open.{Walkable}
use Rattle.wave_link.specs.Grown.{annotated}
use Rattle.wave_link.specs.Numbered.{NumberedInOrder}
use Rattle.wave_link.specs.Plain.{noted}
use Rattle.wave_link.specs.Ripples.{ExactRipples}
use Rattle.wave_link.specs.Room.{WithinLimits}
use Rattle.asm_link.specs.declared.fault.Unfit.{Unfit}
use Rattle.asm_link.specs.declared.fault.Lack.{Lack}
use Rattle.asm_link.specs.declared.fault.LinkFault.{LinkFault}
use Rattle.asm_link.specs.Bare.{bare}
use Rattle.asm_link.specs.Linked.{HasNotes, Linked, CanBeNoted, RefusesImage, StillLacks, TellsLack}
use Rattle.asm_link.specs.Unfit.{lack_in, room_in, lacks}
use Rattle.asm_link.proofs.Drafts.{bare_has_none}
use Rattle.asm_link.proofs.Leaves.{within}
use Rattle.asm_link.proofs.Opens.{walkable}
use Rattle.asm_link.proofs.Plain.{alike_noted, arrays_noted, none_added, formed_noted}
use Rattle.asm_link.proofs.SameWalk.{keeps_alike, walks_alike}

-- What a draft lacks, found in two steps.

pub lack_front : (draft : Image) (lack : Lack) → TellsLack (lack_in draft.blocks) lack
    → TellsLack (lacks draft) lack
unfolding lacks
lack_front draft lack h = grind arith

pub lack_back : (draft made : Image) (lack : Lack) → lack_in draft.blocks ≡ None → made ≡ annotated draft
    → TellsLack (room_in draft.blocks made.blocks) lack → TellsLack (lacks draft) lack
unfolding lacks
lack_back draft made lack n e h = grind arith

pub lacks_nothing : (draft made : Image) → lack_in draft.blocks ≡ None → made ≡ annotated draft
    → room_in draft.blocks made.blocks ≡ None → lacks draft ≡ None
unfolding lacks
lacks_nothing draft made n e h = grind arith

-- What the draft of an image has.

pub draft_bare : (image draft : Image) → draft ≡ bare image → NoNotes draft
draft_bare image draft e = subst NoNotes (sym e) (bare_has_none image)

pub draft_walkable : (image draft : Image) → draft ≡ bare image → Formed image → ShapeRules image
    → SlotRules image → Walkable draft
draft_walkable image draft e formed shape slots = subst Walkable (sym e) (walkable image formed shape slots)

pub draft_within : (image draft : Image) → draft ≡ bare image → Formed image → WithinLimits draft
draft_within image draft e formed = subst WithinLimits (sym e) (within image formed)

pub draft_formed : (image draft : Image) → draft ≡ bare image → Formed image → Formed (noted draft)
draft_formed image draft e formed = grind (arith, formed_noted image formed)

-- With what its notes need.

pub can_with : (image draft : Image) → draft ≡ bare image → ShapeRules image → SlotRules image
    → lacks draft ≡ None → CanBeNoted image
can_with image draft e shape slots none = grind arith

pub linked_with : (image draft made : Image) → draft ≡ bare image → Formed made → HasNotes draft made
    → lacks draft ≡ None → NumberedInOrder made → ExactRipples made → Linked image made
linked_with image draft made e formed notes none numbers ripples = grind arith

-- With nothing else.

pub can_plain : (image draft made : Image) → draft ≡ bare image → ShapeRules image → SlotRules image
    → made ≡ noted draft → Sound made → CanBeNoted image
can_plain image draft made e shape slots m sound = grind arith

has_plain : (draft : Image) → Sound (noted draft) → HasNotes draft (noted draft)
has_plain draft sound = record {
  sound = sound;
  kept = keeps_alike draft (noted draft) (arrays_noted draft) (alike_noted draft);
  walk = walks_alike draft (noted draft) (arrays_noted draft) (alike_noted draft);
  triggers = record {
    some = λ b n h a. absurd (none_added draft b n a);
    near = λ b n m h a s. absurd (none_added draft b n a);
  };
  needed = λ b n h a. absurd (none_added draft b n a);
  never_linked = λ b n notes h a rules. none_added draft b n a;
}

pub linked_plain : (image draft made : Image) → draft ≡ bare image → made ≡ noted draft → Formed made
    → Sound made → Linked image made
linked_plain image draft made e m formed sound = grind (arith, has_plain)

pub refused_plain : (image draft : Image) (lack : Unfit) (fault : LinkFault) → draft ≡ bare image
    → ShapeRules image → SlotRules image → lacks draft ≡ Some lack → StillLacks draft lack fault
    → RefusesImage image fault
refused_plain image draft lack fault e shape slots l h = grind arith
