-- What the code holds after acts, and where one is past.
use Rattle.std.proofs.Common.{arith, ◌≡◌, ℕ, List, [], ◌∷◌, ◌++◌, Some, None, refl, sym, ap, ◌∙◌, subst}
use Rattle.std.proofs.Common.{append_assoc}
use Rattle.ws_words.specs.Memory.{OutIs, Does, lengths_of}
use Rattle.ws_words.specs.Outside.{Act, loads, Outside, ProcState}
use Rattle.ws_words.specs.Past.{ActsBegin, IsWithin, AreWithin, after_act, after_acts}
use Rattle.ws_words.specs.declared.memory.Memory.{Memory}
use Rattle.ws_words.proofs.Acts.{Silent, after_append, acts_of, with_more, begins_then}
use Rattle.ws_words.proofs.Held.{silently, lengths_stay_all}
use Rattle.cfg_core.specs.Graph.{Term}
use Rattle.cfg_core.specs.Walk.{value, loads_of, values, all_loads, value_of, values_of}
use Rattle.seq_run.specs.Firsts.{first_past}
use Rattle.seq_run.specs.Shows.{ShowsMemory, Holds, Stops}
use Rattle.seq_run.proofs.Grows.{OnlyLoads, loads_front, loads_leave, only_loads, only_all_loads}
use Rattle.seq_run.proofs.FirstPasts.{all_within, found, within_both}

-- the lengths that the code holds are those from the start
pub lengths_held : (start o : Outside) (m : Memory) → ShowsMemory start o m
    → lengths_of m.cells ≡ lengths_of start.cells
lengths_held start o m sh = grind (arith, lengths_stay_all)

after_shows : (start o : Outside) (m n : Memory) (acts : List Act) → ShowsMemory start o m
    → OutIs (after_acts o acts) n → AreWithin (lengths_of start.cells) acts
    → ShowsMemory start (after_acts o acts) n
after_shows start o m n acts sh out w =
    let e : o.acts ++ acts ≡ (after_acts o acts).acts = sym (acts_of o acts) in
    record {
      out = out;
      within = subst (AreWithin (lengths_of start.cells)) e (within_both (lengths_of start.cells) o.acts acts
          sh.within w);
      told = grind (arith, after_append, o.acts);
    }

-- after one act more
pub act_shows : (start o : Outside) (m n : Memory) (act : Act) → ShowsMemory start o m → Does act m n
    → IsWithin (lengths_of start.cells) act → ShowsMemory start (after_act o act) n
act_shows start o m n act sh d w = after_shows start o m n (act ∷ []) sh (d o sh.out) (w, tt)

silent_loads : (acts : List Act) → OnlyLoads acts → Silent acts
silent_loads (loads a i ∷ acts) h = grind (arith, silent_loads acts h.1)
silent_loads acts h = grind arith

-- after loads more
pub loads_show : (start o : Outside) (m : Memory) (acts : List Act) → ShowsMemory start o m → OnlyLoads acts
    → AreWithin (lengths_of start.cells) acts → ShowsMemory start (with_more o acts) m
loads_show start o m acts sh only w =
    let e = loads_leave o acts only in
    subst (λ (p : Outside). ShowsMemory start p m) e
    (after_shows start o m m acts sh (subst (λ (p : Outside). OutIs p m) (sym e)
    (silently o m sh.out acts (silent_loads acts only))) w)

cut : (xs ys zs : List Act) (a : Act) → xs ++ (ys ++ a ∷ zs) ≡ ((xs ++ ys) ++ a ∷ []) ++ zs
cut xs ys zs a = sym (append_assoc xs ys (a ∷ zs)) ∙ sym (append_assoc (xs ++ ys) (a ∷ []) zs)

-- one of the loads is past
pub loads_stop : (start o : Outside) (m : Memory) (acts all : List Act) (c : ℕ) → ShowsMemory start o m
    → OnlyLoads acts → first_past (lengths_of start.cells) acts ≡ Some c → ActsBegin (o.acts ++ acts) all
    → Stops start all c m
loads_stop start o m acts all c sh only h b =
    let r = found (lengths_of start.cells) acts c h in
    record {
      before = with_more o r.before;
      shows = loads_show start o m r.before sh (loads_front r.before _ (subst OnlyLoads r.first.split only))
          r.first.within;
      act = r.first.act;
      past = r.first.past;
      first = begins_then _ (o.acts ++ acts) all (
        r.first.after,
        ap (λ (xs : List Act). o.acts ++ xs)
            r.first.split ∙ cut o.acts r.before r.first.after r.first.act,
      ) b;
    }

-- more acts stop at the same act
pub stops_more : (start : Outside) (xs ys : List Act) (c : ℕ) (m : Memory) → ActsBegin xs ys
    → Stops start xs c m → Stops start ys c m
stops_more start xs ys c m b s = record {
  before = s.before;
  shows = s.shows;
  act = s.act;
  past = s.past;
  first = begins_then _ xs ys s.first b;
}

-- evaluation in a state that the code holds
module _ (start : Outside) (s : ProcState) (m : Memory) (vars : List ℕ) (h : Holds start s m vars) where
  lens : lengths_of m.cells ≡ lengths_of start.cells
  lens = lengths_held start s.out m h.out

  -- the code's value is the run's
  pub value_is : (t : Term) → value t vars m.cells ≡ (value_of t s).0
  value_is t = grind (arith, s.vars)

  -- so are the values of arguments
  pub values_are : (ts : List Term) → values ts vars m.cells ≡ (values_of ts s).0
  values_are ts = grind (arith, s.vars)

  -- so are its loads
  pub loads_are : (t : Term) → first_past (lengths_of m.cells) (loads_of t vars m.cells) ≡ first_past
      (lengths_of start.cells) (loads_of t s.vars s.out.cells)
  loads_are t = grind (arith, lens, s.vars)

  all_loads_are : (ts : List Term) → first_past (lengths_of m.cells) (all_loads ts vars m.cells) ≡ first_past
      (lengths_of start.cells) (all_loads ts s.vars s.out.cells)
  all_loads_are ts = grind (arith, lens, s.vars)

  -- no load is past
  pub value_holds : (t : Term) → first_past (lengths_of m.cells) (loads_of t vars m.cells) ≡ None
      → Holds start (value_of t s).1 m vars
  value_holds t e = record {
    out = loads_show start s.out m (loads_of t s.vars s.out.cells) h.out (only_loads t s.vars s.out.cells)
        (grind (arith, all_within, loads_are));
    same_vars = h.same_vars;
  }

  -- no load of the arguments is past
  pub values_hold : (ts : List Term) → first_past (lengths_of m.cells) (all_loads ts vars m.cells) ≡ None
      → Holds start (values_of ts s).1 m vars
  values_hold ts e = record {
    out = loads_show start s.out m (all_loads ts s.vars s.out.cells) h.out
        (only_all_loads ts s.vars s.out.cells) (grind (arith, all_within, all_loads_are));
    same_vars = h.same_vars;
  }

  -- a load is past
  pub value_stops : (t : Term) (c : ℕ) (all : List Act) → first_past (lengths_of m.cells)
      (loads_of t vars m.cells) ≡ Some c → ActsBegin (value_of t s).1.out.acts all → Stops start all c m
  value_stops t c all e b = grind (arith, loads_stop, s.vars, only_loads, loads_are)

  -- a load of the arguments is past
  pub values_stop : (ts : List Term) (c : ℕ) (all : List Act) → first_past (lengths_of m.cells)
      (all_loads ts vars m.cells) ≡ Some c → ActsBegin (values_of ts s).1.out.acts all → Stops start all c m
  values_stop ts c all e b = grind (arith, loads_stop, s.vars, only_all_loads, all_loads_are)

-- acts more at the end
pub one_more : (xs : List Act) (a : Act) → ActsBegin xs (xs ++ a ∷ [])
one_more xs a = (a ∷ [], refl)
