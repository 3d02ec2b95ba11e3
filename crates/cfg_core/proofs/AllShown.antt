-- Where no array is hidden, all acts on arrays that are there and all cells are shown as they are.
use Rattle.std.proofs.Common.{ℕ, suc, ◌-◌, ◌≡◌, ◌<◌, ◌≤◌, Bool, true, false, List, [], ◌∷◌}
use Rattle.std.proofs.Common.{length, if◌then◌else◌, refl, ap, ◌∙◌, arith}
use Rattle.ws_words.specs.Operators.{flag}
use Rattle.ws_words.specs.Outside.{Act, Outside, World}
use Rattle.cfg_core.specs.Graph.{GraphArray, Graph}
use Rattle.cfg_core.specs.Walk.{Ends, Goes}
use Rattle.cfg_core.specs.Rules.{IsArray, IsGraph}
use Rattle.cfg_core.specs.Shown.{has_name, shown_cells, shown_among, hidden, is_hidden, shown_act, shown_acts}
use Rattle.cfg_core.specs.Shown.{IsInside, AllInside, StaysInside, NoneHidden, ShowsAll}
use Rattle.cfg_core.proofs.ArraysThere.{ActIn, ActsIn, OutIn, ended_in, going_in}
use Rattle.ws_words.specs.Items.{nth}

named_at : (arrays : List GraphArray) → NoneHidden arrays → (k : ℕ) → k < length arrays
    → hidden (nth arrays k) ≡ false
named_at (a ∷ arrays) h (suc k) lt = named_at arrays h.1 k (omega arith)
named_at arrays h k lt = grind arith

counted : (arrays : List GraphArray) → NoneHidden arrays → (n : ℕ) → n ≤ length arrays
    → shown_among n arrays ≡ n
counted (a ∷ arrays) h (suc n) le =
    let e : flag (has_name a) ≡ 1 = ap flag h.0 in
    let r : shown_among n arrays ≡ n = counted arrays h.1 n (omega arith) in
    omega (arith, e, r)
counted arrays h n le = grind arith

cells_shown : (arrays : List GraphArray) → NoneHidden arrays → (cells : List (List ℕ))
    → length cells ≡ length arrays → shown_cells arrays cells ≡ cells
cells_shown [] h [] e = refl
cells_shown [] h (r ∷ cells) e = absurd (omega arith)
cells_shown (a ∷ arrays) h [] e = refl
cells_shown (a ∷ arrays) h (r ∷ cells) e =
    ap (λ (b : Bool). if b then r ∷ shown_cells arrays cells else shown_cells arrays cells) h.0
    ∙ ap (λ (rs : List (List ℕ)). r ∷ rs) (cells_shown arrays h.1 cells (omega arith))

module _ (g : Graph) (none : NoneHidden g.arrays) where
  not_hidden : (a : ℕ) → IsArray (length g.arrays) a → is_hidden g.arrays a ≡ false
  not_hidden a h = named_at g.arrays none (a - 1) (omega arith)

  act_shown : (act : Act) → ActIn g act → shown_act g.arrays act ≡ act ∷ []
  act_shown act h = grind (arith, not_hidden, counted)

  acts_shown : (acts : List Act) → ActsIn g acts → shown_acts g.arrays acts ≡ acts
  acts_shown [] h = refl
  acts_shown (act ∷ acts) h = grind (arith, act_shown, acts_shown acts h.1)

  both_ways : (b : Bool) → b ≡ true → b ≡ false → ⊥
  both_ways b e d = absurd (cc)

  act_inside : (act : Act) → ActIn g act → IsInside g.arrays act
  act_inside act h = grind (arith, both_ways, not_hidden)

  acts_inside : (acts : List Act) → ActsIn g acts → AllInside g.arrays acts
  acts_inside [] h = tt
  acts_inside (act ∷ acts) h = (act_inside act h.0, acts_inside acts h.1)

  all_shown : (o : Outside) → OutIn g o → ShowsAll g o
  all_shown o h = grind (arith, acts_shown, o.acts, cells_shown, o.cells)

-- where no array is hidden, all is shown at the end of a walk
pub ended_shown : (g : Graph) → IsGraph g → NoneHidden g.arrays → (world : World) (turns : ℕ) (o : Outside)
    → Ends g world turns o → ShowsAll g o
ended_shown g rules none world turns o e = all_shown g none o (ended_in g rules.numbers world turns o e)

-- and where a walk is going
pub going_shown : (g : Graph) → IsGraph g → NoneHidden g.arrays → (world : World) (turns : ℕ) (o : Outside)
    → Goes g world turns o → ShowsAll g o
going_shown g rules none world turns o e = all_shown g none o (going_in g rules.numbers world turns o e)

-- and no hidden array is loaded or stored past its end
pub stays_inside : (g : Graph) → IsGraph g → NoneHidden g.arrays → (world : World) → StaysInside g world
stays_inside g rules none world = record {
  ends = λ turns o e. acts_inside g none o.acts (ended_in g rules.numbers world turns o e).acts;
  goes = λ turns o e. acts_inside g none o.acts (going_in g rules.numbers world turns o e).acts;
}
