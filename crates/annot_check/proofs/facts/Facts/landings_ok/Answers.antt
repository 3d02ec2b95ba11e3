use Rattle.std.proofs.Common.{◌≡◌, ◌∙◌, ℕ, List, true, sym, ap, arith}
use Rattle.ws_isa.specs.View as view
use Rattle.ws_isa.specs.Image.{Block, Exit, Goto, Branch, Landings, Stop, block_at, is_first}
use Rattle.ws_isa.specs.Sound.{HasPad}
use Rattle.annot_check.proofs.Shaped.Exiting.{each_edge, landing_goes, send_below}
use Rattle.annot_check.proofs.facts.Facts.landings_ok.Goals as goal

pub returns-then-stops_at-clause-firsts : goal.returns-then-stops_at-clause-firsts
returns-then-stops_at-clause-firsts c = λ t s r ls e. absurd (landing_goes (view.image c.args.image.now)
    c.args.number s ls e (sym c.stops_at.ensures ∙ c.if-stops_at.true))

pub returns-in-Send-clause-pads : goal.returns-in-Send-clause-pads
returns-in-Send-clause-pads c = λ t g k p r i o. each_edge (λ x. HasPad (block_at (view.image
    c.args.image.now) x).pads p) (view.image c.args.image.now) c.args.number g (λ s l.
    c.sends_land.ensures.yes c.if-not-sends_land.false k p s (omega (arith, i.0, c.requires.first)) (omega
    (arith, i.1, c.requires.next)) (c.requires.facts.ops k ∙ o) (send_below (view.image c.args.image.now)
    c.requires.formed k p o) l) r

pub returns-in-Branch-clause-pads : goal.returns-in-Branch-clause-pads
returns-in-Branch-clause-pads c = λ t g k p r i o. each_edge (λ x. HasPad (block_at (view.image
    c.args.image.now) x).pads p) (view.image c.args.image.now) c.args.number g (λ s l.
    c.sends_land.ensures.yes c.if-not-sends_land.false k p s (omega (arith, i.0, c.requires.first)) (omega
    (arith, i.1, c.requires.next)) (c.requires.facts.ops k ∙ o) (send_below (view.image c.args.image.now)
    c.requires.formed k p o) l) r

pub returns-in-Goto-clause-pads : goal.returns-in-Goto-clause-pads
returns-in-Goto-clause-pads c = λ t g k p r i o. each_edge (λ x. HasPad (block_at (view.image
    c.args.image.now) x).pads p) (view.image c.args.image.now) c.args.number g (λ s l.
    c.sends_land.ensures.yes c.if-not-sends_land.false k p s (omega (arith, i.0, c.requires.first)) (omega
    (arith, i.1, c.requires.next)) (c.requires.facts.ops k ∙ o) (send_below (view.image c.args.image.now)
    c.requires.formed k p o) l) r

pub returns-in-Stop-clause-pads : goal.returns-in-Stop-clause-pads
returns-in-Stop-clause-pads c = λ t g k p r i o. each_edge (λ x. HasPad (block_at (view.image
    c.args.image.now) x).pads p) (view.image c.args.image.now) c.args.number g (λ s l.
    c.sends_land.ensures.yes c.if-not-sends_land.false k p s (omega (arith, i.0, c.requires.first)) (omega
    (arith, i.1, c.requires.next)) (c.requires.facts.ops k ∙ o) (send_below (view.image c.args.image.now)
    c.requires.formed k p o) l) r

pub returns-in-Send-clause-firsts : goal.returns-in-Send-clause-firsts
returns-in-Send-clause-firsts c = λ t s r ls e. each_edge (λ x. is_first (view.image c.args.image.now) x ≡
    true) (view.image c.args.image.now) c.args.number (sym c.stops_at.ensures ∙ c.if-stops_at.false)
    (c.edges_cross.ensures.yes t) r

of_branch : (m x y : ℕ) (s : ℕ) (ls : List ℕ) (z : Exit) → z ≡ Branch m x y → z ≡ Landings s ls → ⊥
of_branch m x y s ls z e q = cc (sym e ∙ q)

pub returns-in-Branch-clause-firsts : goal.returns-in-Branch-clause-firsts
returns-in-Branch-clause-firsts c = λ t s r ls e. absurd (of_branch c.in-Branch.field-0 c.in-Branch.field-1
    c.in-Branch.field-2 s ls (block_at (view.image c.args.image.now) c.args.number).exit (sym (ap (λ (y :
    Block). y.exit) c.block.ensures) ∙ ap view.exit c.in-Branch.is) e)

of_goto : (m : ℕ) (s : ℕ) (ls : List ℕ) (z : Exit) → z ≡ Goto m → z ≡ Landings s ls → ⊥
of_goto m s ls z e q = cc (sym e ∙ q)

pub returns-in-Goto-clause-firsts : goal.returns-in-Goto-clause-firsts
returns-in-Goto-clause-firsts c = λ t s r ls e. absurd (of_goto c.in-Goto.field-0 s ls
    (block_at (view.image c.args.image.now) c.args.number).exit
    (sym (ap (λ (y : Block). y.exit) c.block.ensures) ∙ ap view.exit c.in-Goto.is) e)

of_stop : (s : ℕ) (ls : List ℕ) (z : Exit) → z ≡ Stop → z ≡ Landings s ls → ⊥
of_stop s ls z e q = cc (sym e ∙ q)

pub returns-in-Stop-clause-firsts : goal.returns-in-Stop-clause-firsts
returns-in-Stop-clause-firsts c = λ t s r ls e. absurd (of_stop s ls
    (block_at (view.image c.args.image.now) c.args.number).exit
    (sym (ap (λ (y : Block). y.exit) c.block.ensures) ∙ ap view.exit c.in-Stop.is) e)
