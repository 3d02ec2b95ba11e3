-- A draft with annotations and nothing else: no no-op is added.
use Rattle.std.specs.Prelude.{ℕ, ◌+◌, List, [], ◌∷◌, get_or}
use Rattle.ws_isa.specs.Image.{Instr, Block, Image}
use Rattle.wave_link.specs.declared.links.Passage.{Passage}
use Rattle.wave_link.specs.Notes.{writer_next, places_of}
use Rattle.wave_link.specs.Outlines.{outlines_of}
use Rattle.wave_link.specs.Grown.{note_for, seq_next, no_place}

abbrev pub noted_instrs : Passage → ℕ → ℕ → List Instr → List Instr
noted_instrs p s w [] = []
noted_instrs p s w (i ∷ is) =
    record { op = i.op; note = note_for p i.op s w; dests = i.dests; others = i.others }
    ∷ noted_instrs p (seq_next i.op s) (writer_next i.op s w) is

abbrev pub noted_block : Passage → Block → Block
noted_block p x = record {
  wave = x.wave;
  pads = x.pads;
  instrs = noted_instrs p (p.low + 1) p.writer x.instrs;
  exit = x.exit;
}

-- block b is the first of these
abbrev pub noted_from : List Passage → ℕ → List Block → List Block
noted_from places b [] = []
noted_from places b (x ∷ xs) = noted_block (get_or places b no_place) x ∷ noted_from places (b + 1) xs

unfoldable pub noted : Image → Image
noted draft = record {
  arrays = draft.arrays;
  blocks = noted_from (no_place ∷ places_of (outlines_of draft.blocks)) 1 draft.blocks;
}
