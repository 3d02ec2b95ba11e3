-- Exits by their choices.
use Rattle.std.proofs.Common.{Bool, ℕ, suc, ◌+◌, ◌-◌, ◌≡◌, ◌<◌, ◌≤◌, List, [], ◌∷◌, ◌++◌, append_assoc, map}
use Rattle.std.proofs.Common.{drop, drop-cons, add-one, length, get_or, sym, ap, ◌∙◌, arith}
use Rattle.std.proofs.lemmas.List.{map-append}
use Rattle.ws_isa.specs.declared.instr.Dest.{Dest}
use Rattle.ws_isa.specs.declared.instr.Instr.{Instr as CodeInstr}
use Rattle.ws_isa.specs.View as view
use Rattle.ws_isa.specs.Image.{Instr, Pad, Block, Image, block_at, stops, is_stop, target, leave_to}
use Rattle.ws_isa.specs.Image.{landing_of, IsBlock}
use Rattle.ws_isa.specs.Sound.{opens_at}
use Rattle.annot_check.specs.Runs.{edge_list, SameEdges}
use Rattle.annot_check.proofs.Shaped.Paths.{edge_is}
use Rattle.ws_isa.specs.Shows.{edge_by}

pub landing_at : (ls : List ℕ) (a : ℕ) → a < length ls → get_or ls a 0 ≡ landing_of ls a
landing_at (x ∷ y ∷ ls) (suc a) l = landing_at (y ∷ ls) a (omega arith)
landing_at ls a l = grind arith

pub landing_last : (ls : List ℕ) (a n : ℕ) → length ls ≤ a → n ≡ length ls - 1 →
    get_or ls n 0 ≡ landing_of ls a
landing_last (x ∷ y ∷ ls) (suc a) (suc n) l e = landing_last (y ∷ ls) a n (omega arith) (omega arith)
landing_last ls a n l e = grind arith

pub target_read : (image : Image) (b r t : ℕ) (x : Block) → x ≡ block_at image b → t ≡ leave_to x.exit r →
    t ≡ target image b r
unfolding target
target_read image b r t x e f = f ∙ ap (λ (y : Block). leave_to y.exit r) e

pub opens_read : (image : Image) (b r t : ℕ) (y : Block) (is : List Instr) (ds : List Dest) →
    IsBlock image b → y ≡ block_at image t → t ≡ target image b r →
    SameEdges is (block_at image b).instrs → ds ≡ edge_list y.pads r is → ds ≡ opens_at image b r
opens_read image b r t y is ds h f g s d = grind (arith, edge_is)

-- an instruction that opens nothing on edges
edges_less : (pads : List Pad) (r : ℕ) (xs : List Instr) (i : Instr) (is : List Instr) →
    edge_by pads r i i.op ≡ [] → edge_list pads r (xs ++ is) ≡ edge_list pads r (xs ++ i ∷ is)
edges_less pads r [] i is e = sym (ap (λ (ds : List Dest). ds ++ edge_list pads r is) e)
edges_less pads r (x ∷ xs) i is e = grind (arith, edges_less pads r xs i is e)

rest_is : (xs : List CodeInstr) (n : ℕ) (x : CodeInstr) → n < length xs → x ≡ get_or xs n x →
    map view.instr (drop n xs) ≡ view.instr x ∷ map view.instr (drop (n + 1) xs)
rest_is xs n x l e = grind (arith, add-one n, drop-cons xs n x l)

-- one more instruction was looked at, and kept
pub edges_push : (xs list more : List CodeInstr) (n : ℕ) (x y : CodeInstr) → n < length xs →
    x ≡ get_or xs n x → more ≡ list ++ y ∷ [] → view.instr y ≡ view.instr x →
    SameEdges (map view.instr list ++ map view.instr (drop n xs)) (map view.instr xs) →
    SameEdges (map view.instr more ++ map view.instr (drop (n + 1) xs)) (map view.instr xs)
edges_push xs list more n x y l e m v s pads r = grind (arith, map-append, append_assoc, rest_is)

-- one more was looked at, and left
pub edges_skip : (xs list : List CodeInstr) (n : ℕ) (x : CodeInstr) → n < length xs →
    x ≡ get_or xs n x →
    ((pads : List Pad) (r : ℕ) (i : Instr) → edge_by pads r i x.op ≡ []) →
    SameEdges (map view.instr list ++ map view.instr (drop n xs)) (map view.instr xs) →
    SameEdges (map view.instr list ++ map view.instr (drop (n + 1) xs)) (map view.instr xs)
edges_skip xs list n x l e f s pads r = grind (arith, edges_less, rest_is)

pub stops_read : (image : Image) (b : ℕ) (v : Bool) (x : Block) → x ≡ block_at image b → v ≡ is_stop x.exit →
    v ≡ stops image b
unfolding stops
stops_read image b v x e f = f ∙ ap (λ (y : Block). is_stop y.exit) e
