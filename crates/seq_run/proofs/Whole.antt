-- A whole run.
use mathlib.Core.Path.{fun_ext}
use Rattle.std.proofs.Common.{◌≡◌, ℕ, suc, ◌+◌, ◌-◌, ◌<◌, ◌≤◌, ◌⊎◌, inl, inr, Bool, true, ◌&&◌, List}
use Rattle.std.proofs.Common.{[], ◌∷◌, ◌++◌, length, take, slice_index_or, refl, sym, ap, ◌∙◌, subst}
use Rattle.std.proofs.Common.{append_assoc, arith}
use Rattle.std.specs.List.{list_all}
use Rattle.ws_words.specs.declared.plain.Plain.{Plain}
use Rattle.ws_words.specs.declared.plain.Plain.TheVariants as plains
use Rattle.ws_words.specs.declared.memory.Memory.{Memory}
use Rattle.ws_words.specs.Memory.{OutIs, lengths_of}
use Rattle.ws_words.specs.Outside.{Outside, World, zeros, opening_out}
use Rattle.ws_words.specs.Past.{AreWithin, FirstPast}
use Rattle.src_ast.specs.declared.lexeme.Place.{Place}
use Rattle.src_ast.specs.Syntax.{Part, Array}
use Rattle.src_ast.specs.Rules.{Rule, IsAccepted, has_main, rules_after}
use Rattle.src_ast.specs.Turns.{CallEnd}
use Rattle.src_ast.specs.Meaning as meaning
use Rattle.src_ast.specs.Meaning.{procs_of, lengths_of as declared_lengths, empty_cells}
use Rattle.src_ast.specs.Runs.{outside_of, acts_in, opened, Runs, Goes, Faults}
use Rattle.seq_run.specs.Resolved as resolved
use Rattle.seq_run.specs.Resolved.{run, calls_below}
use Rattle.seq_run.specs.Resolving as resolving
use Rattle.seq_run.specs.Seen.{call_seen}
use Rattle.seq_run.specs.View as view
use Rattle.seq_run.specs.Shows.{ShowsMemory, ReplyIs}
use Rattle.seq_run.specs.Answer.{SaysEnded, SaysFault, SaysGoing, HasEnded, HasFaulted, IsGoing, RunSays}
use Rattle.seq_run.specs.declared.tree.ArrayShape.{ArrayShape}
use Rattle.seq_run.specs.declared.tree.Proc.{Proc as CodeProc}
use Rattle.seq_run.specs.declared.tree.Resolved.{Resolved}
use Rattle.seq_run.specs.declared.flow.Reply.{Reply}
use Rattle.seq_run.specs.declared.flow.Reply.TheVariants as replies
use Rattle.seq_run.proofs.Places.{run_same, length_procs}
use Rattle.seq_run.proofs.Cost.{exactly}
use Rattle.seq_run.proofs.FirstPasts.{within_front}
use Rattle.seq_run.proofs.Follows.{calls_at, reply_shift}
use Rattle.seq_run.proofs.OneAnswer.{fronts, one_end, one_fault, one_going, end_no_fault, end_no_going}
use Rattle.seq_run.proofs.OneAnswer.{fault_no_going}
use Rattle.seq_run.proofs.Declares.{taken_more}
use Rattle.ws_words.proofs.Numbers.{zeros_count as length_zeros}

-- the cells before the first turn
pub cells_more : (arrays : List ArrayShape) (i : ℕ) (x : ArrayShape) (cells now : List (List ℕ))
    (row : List ℕ) → i < length arrays → x ≡ slice_index_or arrays i x
    → cells ≡ empty_cells (view.lengths (take i arrays)) → row ≡ zeros x.length → now ≡ cells ++ row ∷ []
    → now ≡ empty_cells (view.lengths (take (i + 1) arrays))
cells_more arrays i x cells now row lt is so er en =
    en ∙ ap (λ (cs : List (List ℕ)). cs ++ row ∷ []) so
    ∙ ap (λ (r : List ℕ). empty_cells (view.lengths (take i arrays)) ++ r ∷ []) er
    ∙ sym (at (take i arrays)) ∙ ap (λ (xs : List ArrayShape). empty_cells (view.lengths xs))
    (sym (taken_more arrays i x lt is))
  where
    at : (xs : List ArrayShape) → empty_cells (view.lengths (xs ++ x ∷ [])) ≡ empty_cells (view.lengths xs)
        ++ zeros x.length ∷ []
    at [] = refl
    at (y ∷ xs) = ap (λ (cs : List (List ℕ)). zeros y.length ∷ cs) (at xs)

-- before the first turn the code holds what is outside then
pub opening_shows : (o : Outside) (m : Memory) → o.acts ≡ [] → OutIs o m → ShowsMemory o o m
opening_shows o m e out = grind arith

length_view : (ps : List CodeProc) → length (view.procs ps) ≡ length ps
length_view [] = refl
length_view (p ∷ ps) = ap suc (length_view ps)

-- the run is the call of `main`
pub run_is_call : (r : Resolved) (world : World) (turns count : ℕ) → 0 < length r.procs.items
    → count ≡ length r.procs.items → calls_below count (view.procs r.procs.items) (count - 1) []
    (opening_out (empty_cells (view.lengths r.arrays.items)) world) turns ≡ run (view.program r) world turns
run_is_call r world turns count some e = grind (arith, calls_at, length_view)

-- the answer says how the run went
module _ (start : Outside) (call : ℕ → CallEnd) (turns left : ℕ) (m : Memory) where
  -- the run ended
  pub says_ended : (v : ℕ) → left ≤ turns → ReplyIs start call turns (replies.Value v) m left
      → RunSays start call turns (plains.Ended m.printed m.cells m.took (turns - left))
  says_ended v le h = grind arith

  -- it wants a further turn
  pub says_going : ReplyIs start call turns replies.Out m left
      → RunSays start call turns (plains.Going m.printed)
  says_going h = grind arith

  seen_acts : (e : CallEnd) → (call_seen e).0 ≡ (outside_of e).acts
  seen_acts e = grind arith

  -- it met its first act that is past
  pub says_fault : (c : ℕ) → ReplyIs start call turns (replies.Fault c) m left
      → RunSays start call turns (plains.Fault c m.printed m.cells m.took (turns - left))
  says_fault c h = grind (arith, seen_acts, append_assoc)

-- an accepted program has a procedure
pub list_all_end : (xs : List Rule) (x : Rule) → list_all (λ r. r.kept) (xs ++ x ∷ []) ≡ true → x.kept ≡ true
list_all_end [] x h = by_flag x.kept h
  where
    by_flag : (b : Bool) → (b && true) ≡ true → b ≡ true
    by_flag b h = grind arith
list_all_end (y ∷ xs) x h = by_flag y.kept (list_all (λ r. r.kept) (xs ++ x ∷ [])) h (list_all_end xs x)
  where
    by_flag : (b c : Bool) → (b && c) ≡ true → (c ≡ true → x.kept ≡ true) → x.kept ≡ true
    by_flag b c h f = grind arith

-- `main` is a procedure
pub some_proc : (parts : List Part) → has_main parts ≡ true → 0 < length (procs_of parts)
some_proc (Array x n at ∷ parts) h = some_proc parts h
some_proc parts h = grind arith

-- so an accepted program has one
pub accepted_has_proc : (parts : List Part) (finish : Place) → IsAccepted parts finish
    → 0 < length (procs_of parts)
accepted_has_proc parts finish a = some_proc parts (list_all_end (rules_after [] parts) _ a)

-- so has the code
pub resolved_has_proc : (r : Resolved) (parts : List Part) (finish : Place)
    → view.program r ≡ resolving.program parts → IsAccepted parts finish → 0 < length r.procs.items
resolved_has_proc r parts finish e a = grind (arith, accepted_has_proc, length_view, length_procs)

-- the lengths of the cells at the start are those of the arrays
lengths_opened : (ns : List ℕ) → lengths_of (empty_cells ns) ≡ ns
lengths_opened [] = refl
lengths_opened (n ∷ ns) = ap (λ (k : ℕ). k ∷ lengths_of (empty_cells ns)) (length_zeros n)
    ∙ ap (λ (ks : List ℕ). n ∷ ks) (lengths_opened ns)

-- what the answer says of the program with names
module _ (r : Resolved) (parts : List Part) (world : World) (turns : ℕ) (plain : Plain)
    (e : view.program r ≡ resolving.program parts)
    (says : RunSays (opening_out (empty_cells (view.program r).lengths) world) (run (view.program r) world)
    turns plain) where
  lens : lengths_of (opened parts world).cells ≡ declared_lengths parts
  lens = lengths_opened (declared_lengths parts)

  abbrev named : ℕ → CallEnd
  named k = meaning.run parts world k

  says_names : RunSays (opened parts world) named turns plain
  says_names =
      subst (λ (f : ℕ → CallEnd). RunSays (opened parts world) f turns plain)
      (fun_ext (λ k. sym (run_same parts world k)))
      (subst (λ (p : resolved.ResolvedProgram). RunSays (opening_out (empty_cells p.lengths) world)
      (run p world) turns plain) e says)

  -- one of the three answers
  pub one_of : HasEnded parts world turns plain
      ⊎ (HasFaulted parts world turns plain ⊎ IsGoing parts world turns plain)
  one_of = by_plain plain says_names
    where
      by_plain : (p : Plain) → RunSays (opened parts world) named turns p → HasEnded parts world turns p
          ⊎ (HasFaulted parts world turns p ⊎ IsGoing parts world turns p)
      by_plain (plains.Ended printed arrays took n) h =
          let x = exactly (resolving.program parts) world turns h.value h.end h.left
          (sym (run_same parts world turns) ∙ h.returns) in
          let z : turns - h.left ≡ x.0 = omega (arith, x.1) in
          inl (record {
            taken = x.0;
            end = h.end;
            runs = record {
              passes = (h.value, run_same parts world x.0 ∙ x.2);
              within = subst (λ (ns : List ℕ). AreWithin ns h.end.acts) lens h.within;
            };
            within = omega (arith, x.1);
            says = subst (λ (k : ℕ). SaysEnded k h.end (plains.Ended printed arrays took n)) z h.says;
          })
      by_plain (plains.Fault array printed arrays took n) h = inr (inl (record {
        turn = suc h.earlier;
        array = h.array;
        state = h.state;
        faults = record {
          first = subst (λ (ns : List ℕ). FirstPast ns (acts_in parts world (suc h.earlier)) h.state.acts
              h.array) lens h.first;
          sooner = λ m lt. within_front (declared_lengths parts) (acts_in parts world m)
              (acts_in parts world h.earlier) (fronts parts world m h.earlier (omega (arith, lt)))
              (subst (λ (ns : List ℕ). AreWithin ns (acts_in parts world h.earlier)) lens h.sooner);
          left = h.left;
        };
        within = h.in_time;
        says = h.says;
      }))
      by_plain (plains.Going printed) h = inr (inr (record {
        now = h.now;
        goes = record {
          flows = h.stops;
          within = subst (λ (ns : List ℕ). AreWithin ns h.now.acts) lens
              h.within;
        };
        says = h.says;
      }))

  -- the answer of a run that ends
  pub ends_so : (n : ℕ) (end : Outside) → Runs parts world n end → n ≤ turns → SaysEnded n end plain
  ends_so n end runs le = at one_of
    where
      at : HasEnded parts world turns plain ⊎ (HasFaulted parts world turns plain
          ⊎ IsGoing parts world turns plain) → SaysEnded n end plain
      at (inl h) = let s = one_end parts world h.taken n h.end end h.runs runs in
          subst (λ (k : ℕ). SaysEnded k end plain) s.0 (subst (λ (o : Outside). SaysEnded h.taken o plain) s.1
          h.says)
      at (inr (inl h)) = absurd (end_no_fault parts world n h.turn h.array end h.state runs h.faults)
      at (inr (inr h)) = absurd (end_no_going parts world n turns end h.now le runs h.goes)

  -- that of one that meets an act that is past
  pub faults_so : (n array : ℕ) (state : Outside) → Faults parts world n array state → n ≤ turns
      → SaysFault n array state plain
  faults_so n array state faults le = at one_of
    where
      at : HasEnded parts world turns plain ⊎ (HasFaulted parts world turns plain
          ⊎ IsGoing parts world turns plain) → SaysFault n array state plain
      at (inl h) = absurd (end_no_fault parts world h.taken n array h.end state h.runs faults)
      at (inr (inl h)) =
          let s = one_fault parts world h.turn n h.array array h.state state h.faults faults in
          subst (λ (k : ℕ). SaysFault k array state plain) s.0
          (subst (λ (a : ℕ). SaysFault h.turn a state plain) s.1
          (subst (λ (o : Outside). SaysFault h.turn h.array o plain) s.2 h.says))
      at (inr (inr h)) = absurd (fault_no_going parts world n turns array state h.now le faults h.goes)

  -- that of one that wants a further turn
  pub goes_so : (now : Outside) → Goes parts world turns now → SaysGoing now plain
  goes_so now goes = at one_of
    where
      at : HasEnded parts world turns plain ⊎ (HasFaulted parts world turns plain
          ⊎ IsGoing parts world turns plain) → SaysGoing now plain
      at (inl h) = absurd (end_no_going parts world h.taken turns h.end now h.within h.runs goes)
      at (inr (inl h)) = absurd (fault_no_going parts world h.turn turns h.array h.state now h.within h.faults
          goes)
      at (inr (inr h)) = grind (arith, one_going, h.now, h.goes)

-- the reply of the call of `main` says how the run went
pub reply_is : (r : Resolved) (world : World) (turns count : ℕ) (shapes : List ArrayShape)
    (procs : List CodeProc) (args : List ℕ) (reply answer : Reply) (cells : List (List ℕ)) (before m : Memory)
    (left : ℕ) → 0 < length r.procs.items → count ≡ length r.procs.items → shapes ≡ r.arrays.items
    → procs ≡ r.procs.items → args ≡ [] → reply ≡ answer → cells ≡ empty_cells (view.lengths shapes)
    → OutIs (opening_out cells world) before
    → ((start o : Outside) → ShowsMemory start o before
    → ReplyIs start (calls_below count (view.procs procs) (count - 1) args o) turns reply m left)
    → ReplyIs (opening_out (empty_cells (view.program r).lengths) world) (run (view.program r) world) turns
    answer m left
reply_is r world turns count shapes procs args reply answer cells before m left some ec es ep ea er ecs out
    f =
    let cs : cells ≡ empty_cells (view.lengths r.arrays.items) = grind arith in
    let start : Outside = opening_out (empty_cells (view.lengths r.arrays.items)) world in
    let sh : ShowsMemory start start before = opening_shows start before refl
    (subst (λ (c : List (List ℕ)). OutIs (opening_out c world) before) cs out) in
    subst (λ (x : Reply). ReplyIs start (run (view.program r) world) turns x m left) er
    (reply_shift start (calls_below count (view.procs procs) (count - 1) args start)
    (run (view.program r) world) 0 turns turns reply m left (omega arith)
    (λ k. let z : k + 0 ≡ k = omega arith in ap (run (view.program r) world) z ∙ sym (
    ap (λ (ps : List CodeProc). calls_below count (view.procs ps) (count - 1) args start k) ep
    ∙ ap (λ (xs : List ℕ). calls_below count (view.procs r.procs.items) (count - 1) xs start k) ea
    ∙ run_is_call r world k count some ec))
    (f start start sh))
