-- What the code does at exits is what the walk does.
use Rattle.std.proofs.Common.{ℕ, suc, ◌-◌, ◌≡◌, ◌<◌, ◌≤◌, Bool, true, false, List, [], ◌∷◌, ◌++◌}
use Rattle.std.proofs.Common.{length, drop, if◌then◌else◌, slice_index, slice_set, refl, sym, subst}
use Rattle.std.proofs.Common.{append_assoc, arith}
use Rattle.ws_words.specs.Outside.{ProcState, zeros}
use Rattle.ws_words.proofs.Rows.{zeros_more}
use Rattle.cfg_core.specs.Walk as walks
use Rattle.cfg_core.specs.Walk.{value, values, value_of, values_of, leave, landing, Config, landed}
use Rattle.cfg_core.specs.Walk.{returned, with_result}
use Rattle.ws_words.specs.Memory.{OutIs}
use Rattle.cfg_core.specs.Shows.{Shows, NextIs, stacked}
use Rattle.cfg_core.specs.declared.walker.Walker.{Walker}
use Rattle.cfg_core.specs.declared.walker.Frame.{Frame}
use Rattle.cfg_core.specs.declared.exits.Next.{Next}
use Rattle.cfg_core.specs.declared.exits.Next.TheVariants as next
use Rattle.std.specs.Prelude.{Option, Vec}
use Rattle.std.specs.declared.alloc.Global.{Global}
use Rattle.cfg_core.specs.Graph.{Graph, Term, Call, Send, spot_at, proc_at, entry_of}
use Rattle.cfg_core.specs.View as view
use Rattle.cfg_core.specs.declared.blocks.Leave.{Leave}
use Rattle.cfg_core.specs.declared.table.Room.{Room}
use Rattle.cfg_core.proofs.Follows.{value_is, values_is, loaded, all_loaded}
use Rattle.ws_words.proofs.Lists.{drop_all}

-- one zero more at the entry of a procedure
pub entered_more : (vs ws : List ℕ) (n m : ℕ) → m ≡ suc n → ws ≡ vs ++ zeros n → ws ++ 0 ∷ [] ≡ vs ++ zeros m
entered_more vs ws n m e h = grind (arith, append_assoc, zeros_more)

-- the words from one on begin with it
pub drop_word : (words : List ℕ) (i : ℕ) → i < length words → drop i words ≡ slice_index words i ∷ drop
    (suc i) words
drop_word (w ∷ words) (suc i) lt = drop_word words i (omega arith)
drop_word words i lt = grind arith

-- one variable more is filled
pub landed_next : (named words vars now whole : List ℕ) (i j x v : ℕ) → j ≡ suc i
    → drop i named ≡ x ∷ drop j named → i < length words → v ≡ slice_index words i → now ≡ slice_set vars x v
    → landed (drop i named) (drop i words) vars ≡ whole → landed (drop j named) (drop j words) now ≡ whole
landed_next named words vars now whole i j x v ej en lt ev e h =
    grind (arith, slice_set, slice_index, drop_word)

landed_none : (named vars : List ℕ) → landed named [] vars ≡ vars
landed_none [] vars = refl
landed_none (x ∷ named) vars = refl

-- no word is left to fill with
pub landed_past : (named words vars whole : List ℕ) (i j : ℕ) → i ≤ j → length words ≤ i
    → landed (drop i named) (drop i words) vars ≡ whole → landed (drop j named) (drop j words) vars ≡ whole
landed_past named words vars whole i j lt le h = grind (arith, drop_all, landed_none)

stacked_last : (fs : List Frame) (f : Frame) (below : List walks.Frame)
    → stacked (fs ++ f ∷ []) below ≡ record { result = f.result; back = f.back; vars = f.vars } ∷ stacked fs
    below
stacked_last [] f below = refl
stacked_last (g ∷ fs) f below =
    stacked_last fs f (record { result = g.result; back = g.back; vars = g.vars } ∷ below)

-- back into the last call that waits
pub given_back : (s : ProcState) (frames : List walks.Frame) (k v : ℕ) (w n : Walker) (f : Frame)
    → Shows s frames k w → w.frames.items ≡ n.frames.items ++ f ∷ [] → n.vars ≡ with_result f.result v f.vars
    → OutIs s.out n.memory → n.turns ≡ w.turns → NextIs (returned v s.out frames k) (next.At f.back) n
given_back s frames k v w n f sh ef ev on et = grind (arith, n.frames.items, stacked_last)

-- the code's exit is that of the graph
pub from_exit : (g : Graph) (x y : Leave) (s : ProcState) (frames : List walks.Frame) (k : ℕ) (n : Next)
    (w : Walker) → y ≡ x → NextIs (leave g (view.exit x) s frames k) n w
    → NextIs (leave g (view.exit y) s frames k) n w
from_exit g x y s frames k n w e h = grind arith

-- a choice of ways by a test that holds
pub if_true : (b : Bool) (c d : Config) (n : Next) (w : Walker) → b ≡ true → NextIs c n w
    → NextIs (if b then c else d) n w
if_true b c d n w e h = subst (λ (v : Bool). NextIs (if v then c else d) n w) (sym e) h

-- a choice of ways by a test that does not
pub if_false : (b : Bool) (c d : Config) (n : Next) (w : Walker) → b ≡ false → NextIs d n w
    → NextIs (if b then c else d) n w
if_false b c d n w e h = subst (λ (v : Bool). NextIs (if v then c else d) n w) (sym e) h

module _ (g : Graph) (s : ProcState) (frames : List walks.Frame) (k : ℕ) (w : Walker)
    (sh : Shows s frames k w) where
  -- a call enters its procedure
  pub called : (x : Option ℕ) (f : ℕ) (ts : List Term) (back : ℕ) (room : Room) (words now : List ℕ)
      (fs : Vec Frame Global) → room.entry ≡ entry_of g f → room.params ≡ (proc_at g f).params
      → room.vars ≡ (proc_at g f).vars → words ≡ values ts w.vars w.memory.cells
      → now ≡ words ++ zeros (room.vars - room.params) → fs.items ≡ w.frames.items ++ record {
        result = x;
        back = back;
        vars = w.vars;
      } ∷ [] → NextIs (leave g (Call x f ts back) s frames k) (next.At room.entry)
      (record w { vars = now; frames = fs })
  called x f ts back room words now fs ee ep ev ew en ef =
      let after = all_loaded s frames k w sh ts in grind (arith, values_is, stacked_last, w.frames.items)

  -- a send comes to its landing
  pub sent : (t : Term) (ts : List Term) (ls : List ℕ) (place b : ℕ) (words now : List ℕ)
      → place ≡ value t w.vars w.memory.cells → words ≡ values ts w.vars w.memory.cells → b ≡ landing place ls
      → now ≡ landed (spot_at g b).block.named words (zeros (spot_at g b).vars)
      → NextIs (leave g (Send t ts ls) s frames k) (next.At b) (record w { vars = now })
  sent t ts ls place b words now et ew eb en =
      let after = all_loaded (value_of t s).1 frames k w (loaded s frames k w sh t) ts in
      grind (arith, value_of, value_is, values_of, values_is)
