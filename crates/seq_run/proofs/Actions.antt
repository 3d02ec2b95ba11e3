-- What the code does at an action is what the run does.
use Rattle.std.proofs.Common.{arith, ◌≡◌, ℕ, ◌-◌, ◌<◌, ◌≤◌, true, false, List, Option, Some, None, slice_set}
use Rattle.std.proofs.Common.{refl, ◌∙◌, subst}
use Rattle.std.specs.Option.{is_some}
use Rattle.ws_words.specs.Memory.{OutIs, Does, lengths_of}
use Rattle.ws_words.specs.Outside.{loads, stores, reads, prints, gives, takes, Outside, ProcState, row}
use Rattle.ws_words.specs.Outside.{head_or_zero}
use Rattle.ws_words.specs.Past.{length_of, after_act}
use Rattle.ws_words.specs.declared.memory.Memory.{Memory}
use Rattle.cfg_core.specs.Graph.{Term}
use Rattle.cfg_core.specs.Walk.{value, loads_of, value_of}
use Rattle.seq_run.specs.Resolved as resolved
use Rattle.seq_run.specs.Resolved.{done}
use Rattle.seq_run.specs.Firsts.{past_array, first_past}
use Rattle.seq_run.specs.Shows.{ShowsMemory, Holds, Stops, IsDone}
use Rattle.seq_run.specs.View as view
use Rattle.seq_run.specs.declared.tree.Action.{Action as CodeAction}
use Rattle.ws_words.proofs.Acts.{begins_all, begins_then}
use Rattle.seq_run.proofs.FirstPasts.{some_past, none_within}
use Rattle.seq_run.proofs.Effects.{lengths_held, act_shows, value_is, value_holds, value_stops, one_more}
use Rattle.ws_words.specs.Items.{first_some}

-- the array that the code notes in an action of one term
module _ (start : Outside) (s : ProcState) (m : Memory) (vars : List ℕ) (h : Holds start s m vars) where
  -- an assignment without a load that is past is done
  pub assign_holds : (x v : ℕ) (t : Term) (now : List ℕ) → first_past (lengths_of m.cells)
      (loads_of t vars m.cells) ≡ None → v ≡ value t vars m.cells → now ≡ slice_set vars x v
      → Holds start (done (resolved.Assign x t) s) m now
  assign_holds x v t now none ev en = record {
    out = (value_holds start s m vars h t none).out;
    same_vars = grind (arith, slice_set, s.vars, value_is);
  }

  -- one with such a load stops
  pub assign_stops : (x c : ℕ) (t : Term) → first_past (lengths_of m.cells) (loads_of t vars m.cells) ≡ Some c
      → Stops start (done (resolved.Assign x t) s).out.acts c m
  assign_stops x c t e = value_stops start s m vars h t c _ e (begins_all _)

  -- so is a print
  pub print_holds : (v : ℕ) (t : Term) (n : Memory) → first_past (lengths_of m.cells)
      (loads_of t vars m.cells) ≡ None → v ≡ value t vars m.cells → Does (prints v) m n
      → Holds start (done (resolved.Print t) s) n vars
  print_holds v t n none ev d = record {
    out = act_shows start (value_of t s).1.out m n (prints (value_of t s).0)
        (value_holds start s m vars h t none).out
        (grind (arith, value_is)) tt;
    same_vars = h.same_vars;
  }

  -- so does a print
  pub print_stops : (c : ℕ) (t : Term) → first_past (lengths_of m.cells) (loads_of t vars m.cells) ≡ Some c
      → Stops start (done (resolved.Print t) s).out.acts c m
  print_stops c t e = value_stops start s m vars h t c _ e (one_more _ _)

  -- so is a word for a port
  pub take_holds : (p v : ℕ) (t : Term) (n : Memory) → first_past (lengths_of m.cells)
      (loads_of t vars m.cells) ≡ None → v ≡ value t vars m.cells → Does (takes p v) m n
      → Holds start (done (resolved.Take p t) s) n vars
  take_holds p v t n none ev d = record {
    out = act_shows start (value_of t s).1.out m n (takes p (value_of t s).0)
        (value_holds start s m vars h t none).out (grind (arith, value_is)) tt;
    same_vars = h.same_vars;
  }

  -- so does a word for a port
  pub take_stops : (p c : ℕ) (t : Term) → first_past (lengths_of m.cells) (loads_of t vars m.cells) ≡ Some c
      → Stops start (done (resolved.Take p t) s).out.acts c m
  take_stops p c t e = value_stops start s m vars h t c _ e (one_more _ _)

  -- a word is read
  pub read_holds : (x w : ℕ) (n : Memory) (now : List ℕ)
      → ((o : Outside) → OutIs o m → w ≡ head_or_zero o.input) → Does reads m n → now ≡ slice_set vars x w
      → Holds start (done (resolved.Read x) s) n now
  read_holds x w n now ew d en = record {
    out = act_shows start s.out m n reads h.out d tt;
    same_vars = grind (arith, slice_set, s.vars);
  }

  -- a port gives a word
  pub give_holds : (p x w : ℕ) (n : Memory) (now : List ℕ)
      → ((o : Outside) → OutIs o m → w ≡ head_or_zero (row o.left (p - 1))) → Does (gives p) m n
      → now ≡ slice_set vars x w → Holds start (done (resolved.Give p x) s) n now
  give_holds p x w n now ew d en = record {
    out = act_shows start s.out m n (gives p) h.out d tt;
    same_vars = grind (arith, slice_set, s.vars);
  }

  -- a store notes the first past of the loads of its index, of those of its value, and itself
  module _ (a i v : ℕ) (t u : Term) (ei : i ≡ value t vars m.cells) (ev : v ≡ value u vars m.cells) where
    pub store_holds : (n : Memory) → first_past (lengths_of m.cells) (loads_of t vars m.cells) ≡ None
        → first_past (lengths_of m.cells) (loads_of u vars m.cells) ≡ None
        → past_array (lengths_of m.cells) (loads a i) ≡ None → Does (stores a i v) m n
        → Holds start (done (resolved.Store a t u) s) n vars
    store_holds n et eu ea d =
        let ht = value_holds start s m vars h t et in
        let hu = value_holds start (value_of t s).1 m vars ht u eu in
        let w : i < length_of (lengths_of start.cells) a = subst (λ (ns : List ℕ). i < length_of ns a)
        (lengths_held start s.out m h.out) (none_within (lengths_of m.cells) (loads a i) ea) in
        let x = act_shows start (value_of u (value_of t s).1).1.out m n (stores a i v) hu.out d w in
        record {
          out =
              subst (λ (j : ℕ). ShowsMemory start (after_act (value_of u (value_of t s).1).1.out
              (stores a j (value_of u (value_of t s).1).0)) n) (ei ∙ value_is start s m vars h t)
              (subst (λ (j : ℕ). ShowsMemory start (after_act (value_of u (value_of t s).1).1.out
              (stores a i j)) n) (ev ∙ value_is start (value_of t s).1 m vars ht u) x);
          same_vars = h.same_vars;
        }

    -- the index has a load that is past
    pub index_stops : (c : ℕ) → first_past (lengths_of m.cells) (loads_of t vars m.cells) ≡ Some c
        → Stops start (done (resolved.Store a t u) s).out.acts c m
    index_stops c e = value_stops start s m vars h t c _ e
        (begins_then _ (value_of u (value_of t s).1).1.out.acts _ (loads_of u s.vars s.out.cells, refl)
        (one_more _ _))

    -- so has the value
    pub word_stops : (c : ℕ) → first_past (lengths_of m.cells) (loads_of t vars m.cells) ≡ None
        → first_past (lengths_of m.cells) (loads_of u vars m.cells) ≡ Some c
        → Stops start (done (resolved.Store a t u) s).out.acts c m
    word_stops c et e = value_stops start (value_of t s).1 m vars (value_holds start s m vars h t et) u c _ e
        (one_more _ _)

    -- the store is past
    pub store_stops : (c : ℕ) → first_past (lengths_of m.cells) (loads_of t vars m.cells) ≡ None
        → first_past (lengths_of m.cells) (loads_of u vars m.cells) ≡ None
        → past_array (lengths_of m.cells) (loads a i) ≡ Some c
        → Stops start (done (resolved.Store a t u) s).out.acts c m
    store_stops c et eu ea =
        let ht = value_holds start s m vars h t et in
        let hu = value_holds start (value_of t s).1 m vars ht u eu in
        let p : (a ≡ c) × (length_of (lengths_of m.cells) a ≤ i) = some_past (lengths_of m.cells) (loads a i)
        c ea in
        let l : length_of (lengths_of start.cells) a ≤ (value_of t s).0 =
        subst (λ (j : ℕ). length_of (lengths_of start.cells) a ≤ j) (ei ∙ value_is start s m vars h t)
        (subst (λ (ns : List ℕ). length_of ns a ≤ i) (lengths_held start s.out m h.out) p.1) in
        record {
          before = (value_of u (value_of t s).1).1.out;
          shows = hu.out;
          act = stores a (value_of t s).0 (value_of u (value_of t s).1).0;
          past = (p.0, l);
          first = begins_all _;
        }

    -- which of them the code noted
    pub noted : (one two own : Option ℕ) → first_past (lengths_of m.cells) (loads_of t vars m.cells) ≡ one
        → first_past (lengths_of m.cells) (loads_of u vars m.cells) ≡ two
        → past_array (lengths_of m.cells) (loads a i) ≡ own → (c : ℕ) → first_some (first_some one two) own
        ≡ Some c → Stops start (done (resolved.Store a t u) s).out.acts c m
    noted one two own e f g c is = grind (arith, index_stops, word_stops, store_stops)

    -- nothing was noted in a store: it is done
    pub none_noted : (n : Memory) (one two own : Option ℕ) → first_past (lengths_of m.cells)
        (loads_of t vars m.cells) ≡ one → first_past (lengths_of m.cells) (loads_of u vars m.cells) ≡ two
        → past_array (lengths_of m.cells) (loads a i) ≡ own → first_some (first_some one two) own ≡ None
        → Does (stores a i v) m n → Holds start (done (resolved.Store a t u) s) n vars
    none_noted n one two own e f g is d = grind (arith, store_holds)

-- what the code noted decides
pub some_done : (start : Outside) (a b : CodeAction) (s : ProcState) (past : Option ℕ) (m : Memory)
    (vars : List ℕ) → b ≡ a → ((c : ℕ) → past ≡ Some c → Stops start (done (view.action a) s).out.acts c m)
    → (past ≡ None → ⊥) → IsDone start (view.action b) s past m vars
some_done start a b s past m vars e f g = grind arith

-- where nothing was noted the action is done
pub none_done : (start : Outside) (a b : CodeAction) (s : ProcState) (past : Option ℕ) (m : Memory)
    (vars : List ℕ) → b ≡ a → past ≡ None → Holds start (done (view.action a) s) m vars
    → IsDone start (view.action b) s past m vars
none_done start a b s past m vars e n h = grind arith

-- an array is there, or none
pub some_there : (p : Option ℕ) → true ≡ is_some p → p ≡ None → ⊥
some_there p e h = grind arith

-- no array is there
pub none_there : (p : Option ℕ) → false ≡ is_some p → p ≡ None
none_there p e = grind arith

-- an action that can't be past
pub from_action : (start : Outside) (a b : CodeAction) (s : ProcState) (m : Memory) (vars : List ℕ) → b ≡ a
    → Holds start (done (view.action a) s) m vars → Holds start (done (view.action b) s) m vars
from_action start a b s m vars e h = grind arith
