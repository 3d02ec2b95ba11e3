-- A table that takes a token: what it holds, and what is true of it.
use Rattle.std.proofs.Common.{◌≡◌, ◌<◌, ◌≤◌, ℕ, suc, Bool, true, false, cond, List, [], ◌∷◌, ◌++◌}
use Rattle.std.proofs.Common.{Some, None, length, slice_index, sym, refl, ap, ◌∙◌, subst, arith}
use Rattle.ws_words.specs.Outside.{World}
use Rattle.ws_isa.specs.declared.instr.Op.{Op}
use Rattle.ws_isa.specs.Image.{Image, Token, ports, ports_of, instr_at, is_memory, is_memory_op}
use Rattle.ws_isa.specs.Image.{is_advance_op, selector_of, result_of, result_of_op, sends, tokens_to}
use Rattle.ws_isa.specs.declared.instr.Dest.{Dest}
use Rattle.df_core.specs.Places.{destinations}
use Rattle.ws_isa.specs.Formed.{Formed}
use Rattle.ws_isa.specs.Sound.{Sound}
use Rattle.ws_isa.specs.Walk.{gather}
use Rattle.df_core.specs.Core.{IsSent, Key, is_full, with_at, same_key}
use Rattle.df_core.specs.Fit.{RightToken, RightRequest}
use Rattle.df_core.proofs.Walked.Facts.{WalkFacts}
use Rattle.df_core.proofs.Walked.FromSound.{facts_of}
use Rattle.df_core.proofs.Walked.PortsThere.{ports_there}
use Rattle.df_core.proofs.Parts.Arriving.{ports_is_op, memory_is_op, sends_are, result_is_op}
use Rattle.df_core.specs.Rights.{IsRight, operands_of}
use Rattle.match_table.specs.declared.entry.Arrived.{Arrived}
use Rattle.match_table.specs.Pages.{Paged}
use Rattle.match_table.specs.declared.meeting.Operands.{Operands}
use Rattle.match_table.specs.declared.meeting.Seen.TheVariants.{Waits, Fills}
use Rattle.match_table.specs.Pages.{arrived_in}
use Rattle.match_table.specs.Ports.{listed, is_taken, with_port, alone, SeenSo}
use Rattle.match_table.specs.declared.entry.Instance.{Instance}
use Rattle.match_table.specs.Spots.{instance_key}
use Rattle.match_table.specs.Tables.{TableOk, held, held_in, TableContent}
use Rattle.match_table.specs.declared.table.Accept.{Accept}
use Rattle.match_table.specs.declared.table.Results.{Results}
use Rattle.match_table.specs.declared.table.Took.{Took}
use Rattle.match_table.specs.Matching.{Arrives, Full, AcceptIs, HandedOn, Accepted, TookAs, will_fire}
use Rattle.match_table.proofs.Kept.{port_below, full_with, full_operands, free_port, kept_ok, new_held}
use Rattle.match_table.proofs.Kept.{new_full, new_operands, fired_ok}
use Rattle.ws_isa.proofs.Delivered.{few_ports}

-- the instruction that the code has looked up
module _ (image im : Image) (k i : ℕ) (op : Op) (looked : op ≡ (instr_at im i).op) (same : im ≡ image)
    (instr : i ≡ k) where
  op_is : op ≡ (instr_at image k).op
  op_is = looked ∙ ap (λ (x : Image × ℕ). (instr_at x.0 x.1).op) (λ j. (same j, instr j))

  pub count_is : (n : ℕ) → n ≡ ports_of op → (n ≡ ports image k) × (n ≤ 3)
  count_is n is = grind (arith, op_is, ports_is_op, few_ports)

  pub memory_is : (b : Bool) → b ≡ is_memory_op op → is_memory image k ≡ b
  memory_is b is = memory_is_op image k ∙ ap is_memory_op (sym op_is) ∙ sym is

  pub sent_is : (xs : List ℕ) (w u number word select : ℕ) (dests : List Dest) → u ≡ w
      → number ≡ cond (is_advance_op op) (suc u) u → word ≡ result_of_op op xs → select ≡ selector_of op xs
      → dests ≡ destinations im i select → tokens_to number word dests ≡ sends image w k xs
      (result_of image k xs)
  sent_is xs w u number word select dests wave number_is word_is select_is dests_is =
      grind (arith, op_is, result_is_op, sends_are)

-- an answer of a table with more room is one of the table
arrives_from : (old mid new : TableContent) (t : Token) → mid.entries ≡ old.entries → Arrives mid t new
    → Arrives old t new
arrives_from old mid new t e a = grind (arith, t.instr, a.more, t.port)

full_from : (image : Image) (old mid new : TableContent) (t : Token) (xs : List ℕ) → mid.fired ≡ old.fired
    → Full image mid t new xs → Full image old t new xs
full_from image old mid new t xs f a = grind arith

module _ {J : Type 0} where
  pub accepted : (image : Image) (old mid new : TableContent) (t : Token) (xs : List ℕ) (answer : Accept J)
      → mid.entries ≡ old.entries → mid.fired ≡ old.fired → Arrives mid t new → Full image mid t new xs
      → AcceptIs image t xs answer → Accepted image old t new answer
  accepted image old mid new t xs answer e f a b o = grind (arith, arrives_from, full_from)

module _ (image : Image) (c : TableContent) (t : Token) where
  pub fires_true : held c t.wave t.instr t.port ≡ None
      → is_full (with_at t.wave t.instr t.port (Some t.value) (held c)) t.wave t.instr (ports image t.instr)
      ≡ true → true ≡ will_fire image c t
  fires_true free full = grind (arith, t.instr, t.port)

  pub open_false : is_full (with_at t.wave t.instr t.port (Some t.value) (held c)) t.wave t.instr
      (ports image t.instr) ≡ false → false ≡ will_fire image c t
  open_false unfilled = grind (arith, t.instr)

module _ {J : Type 0} where
  pub answered : (image : Image) (old mid new : TableContent) (t : Token) (xs : List ℕ) (rs : Results J)
      (did : Took) → mid.entries ≡ old.entries → mid.fired ≡ old.fired → Arrives mid t new
      → Full image mid t new xs → HandedOn image t xs rs did → TookAs image old t new rs did
  answered image old mid new t xs rs did e f a b o = grind (arith, accepted)

pub memory_two : (op : Op) → is_memory_op op ≡ true → ports_of op ≤ 2
memory_two op e = grind arith

pub request_operands : (o : Operands) (n : ℕ) → n ≡ length (listed o) → n ≤ 2
    → operands_of n (slice_index (listed o) 0) (slice_index (listed o) 1) ≡ listed o
request_operands o n is le = grind arith

-- what is true of a table, by its fields and by its value
pub ok_now : (image : Image) (world : World) (entries : Paged) (fired asked : List Key)
    → TableOk image world entries fired asked → (c : TableContent) → entries ≡ c.entries
    → TableOk image world c.entries fired asked
ok_now image world entries fired asked ok c same = subst (λ l. TableOk image world l fired asked) same ok

module _ (image : Image) (world : World) (formed : Formed image) (sound : Sound image) where
  pub facts : WalkFacts image world
  facts = facts_of image world (ports_there image formed) sound

  module _ (c : TableContent) (fired asked : List Key) (ok : TableOk image world c.entries fired asked)
      (t : Token) (right : IsRight image world t) where
    pub below : t.port < ports image t.instr
    below = port_below image world facts c.entries fired asked ok t.wave t.instr t.port t.value right

    -- an instance that would be full has the walk's operands
    module _ (operands : Operands) (seen : SeenSo (arrived_in c.entries t.wave t.instr) t.port t.value
        (ports image t.instr) (Fills operands)) where
      pub fills : listed operands ≡ right.inst.operands
      fills = seen.2 ∙ full_operands image world facts c.entries fired asked ok t.wave t.instr t.port t.value
          right seen.0 (few_ports image t.instr) (with_port (arrived_in c.entries t.wave t.instr) t.port
          t.value) refl seen.1

      pub fills_fires : true ≡ will_fire image c t
      fills_fires = fires_true image c t (grind
          (arith, free_port, facts, c.entries, t.instr, t.port, t.value)) (full_with _ _ facts _ _ _ ok _ _ _
          _ right seen.0 (few_ports image t.instr) _ refl ∙ seen.1)

    pub waits_open : SeenSo (arrived_in c.entries t.wave t.instr) t.port t.value (ports image t.instr) Waits
        → false ≡ will_fire image c t
    waits_open seen = open_false image c t (full_with _ _ facts _ _ _ ok _ _ _ _ right seen.0 (few_ports image
        t.instr) _ refl ∙ seen.1)

    -- what an instance sends that isn't one of memory is right
    pub sends_right : (xs : List ℕ) → xs ≡ right.inst.operands → is_memory image t.instr ≡ false
        → (w i p v : ℕ) → IsSent (sends image t.wave t.instr xs (result_of image t.instr xs)) w i p v
        → RightToken image world w i p v
    sends_right xs is plain w i p v sent =
        grind (arith, facts.sent, right.at.fires, right.at.instr, facts.plain)

    -- the request of one of memory is right
    pub asks_right : (operands : Operands) → listed operands ≡ right.inst.operands
        → is_memory image t.instr ≡ true → operands_of (ports image t.instr) (slice_index (listed operands) 0)
        (slice_index (listed operands) 1) ≡ listed operands
    asks_right operands is memory =
        grind (arith, request_operands, facts.filled, ports_is_op, memory_two, memory_is_op)

    pub request_right : (operands : Operands) → listed operands ≡ right.inst.operands
        → is_memory image t.instr ≡ true → RightRequest image world t.wave t.instr
        (operands_of (ports image t.instr) (slice_index (listed operands) 0)
        (slice_index (listed operands) 1))
    request_right operands is memory = grind (arith, asks_right)

-- a right token comes to a port that has had none, and an entry of its instance is put that has it
pub record Puts (image : Image) (world : World) (entries : Paged) (fired asked : List Key)
    (t : Token) (next : Arrived) (new : Paged) : Type 0 where
  pub facts : WalkFacts image world
  pub ok : TableOk image world entries fired asked
  pub right : IsRight image world t
  pub free : is_taken (arrived_in entries t.wave t.instr) t.port ≡ false
  pub next_is : next ≡ with_port (arrived_in entries t.wave t.instr) t.port t.value
  pub arrived : (a b : ℕ) → arrived_in new a b ≡ cond (same_key t.wave t.instr a b) (Some next)
      (arrived_in entries a b)

-- the instance is full, and is listed
pub record Lists (image : Image) (fired asked : List Key) (t : Token) (next : Arrived)
    (new : Paged) (fired' asked' : List Key) : Type 0 where
  pub full : is_full (alone next) 0 0 (ports image t.instr) ≡ true
  pub one_more : fired' ≡ fired ++ record { wave = t.wave; instr = t.instr } ∷ []
  pub asks_so : asked' ≡ cond (is_memory image t.instr) (asked ++ record { wave = t.wave; instr = t.instr } ∷
      [])
      asked

-- what a call of `put` leaves
pub puts : {image : Image} {world : World} {entries : Paged} {fired asked : List Key}
    → Formed image → Sound image → TableOk image world entries fired asked → (before : TableContent)
    → entries ≡ before.entries → (t : Token) → IsRight image world t →
    is_taken (arrived_in before.entries t.wave t.instr) t.port ≡ false
    → (new : Paged) (w i p v : ℕ) → w ≡ t.wave → i ≡ t.instr → p ≡ t.port → v ≡ t.value →
    ((a b : ℕ) → arrived_in new a b ≡ cond (same_key w i a b) (Some (with_port (arrived_in entries w i) p v))
    (arrived_in entries a b)) → Puts image world entries fired asked t
    (with_port (arrived_in before.entries t.wave t.instr) t.port
    t.value) new
puts {image} {world} {entries} formed sound ok before same t right free new w i p v wave instr port value
    arrived = grind (arith, facts image world formed sound)

-- and what is listed then, if the instance is one of memory or not
pub lists : {image : Image} {t : Token} {next : Arrived} {new : Paged}
    (fired asked fired' asked' : List Key) (own : Instance) → own.wave ≡ t.wave → own.instr ≡ t.instr
    → is_full (alone next) 0 0 (ports image t.instr) ≡ true → fired' ≡ fired ++ instance_key own ∷ []
    → (asks : Bool) → is_memory image t.instr ≡ asks
    → asked' ≡ cond asks (asked ++ instance_key own ∷ []) asked
    → Lists image fired asked t next new fired' asked'
lists {image} {t} fired asked fired' asked' own wave instr full one_more asks is are = grind arith

module _ {image : Image} {world : World} {entries : Paged} {fired asked : List Key}
    {t : Token} {next : Arrived} {new : Paged}
    (p : Puts image world entries fired asked t next new) where
  pub puts_arrives : {before after : TableContent} → entries ≡ before.entries → new ≡ after.entries
      → Arrives before t after
  puts_arrives was is = record {
    free = grind (arith, t.instr, free_port, p.ok, t.port, t.value, p.right);
    more = λ a b q. ap (λ (l : Paged). held_in l a b q) (sym is) ∙ new_held image world
        p.facts entries fired asked p.ok t.wave t.instr t.port t.value p.right p.free (few_ports _ _) next
        p.next_is new p.arrived a b q ∙ ap (λ (l : Paged). with_at t.wave t.instr t.port
        (Some t.value) (held_in l) a b q) was;
  }

  puts_full : is_full (held_in new) t.wave t.instr (ports image t.instr) ≡ is_full (alone next) 0 0
      (ports image t.instr)
  puts_full = grind (arith, new_full, p.ok, t.instr, t.port, t.value, p.right, p.free, few_ports)

  -- the instance isn't full
  pub keeps_ok : is_full (alone next) 0 0 (ports image t.instr) ≡ false → TableOk image world new fired asked
  keeps_ok waits = kept_ok image world p.facts entries fired asked p.ok t.wave t.instr t.port t.value p.right
      p.free (few_ports image t.instr) next p.next_is new p.arrived waits

  -- the instance is full
  module _ {fired' asked' : List Key} (l : Lists image fired asked t next new fired' asked') where
    pub fires_ok : TableOk image world new fired' asked'
    fires_ok = fired_ok _ _ p.facts _ _ _ p.ok _ _ _ _ p.right p.free (few_ports _ _) _ p.next_is _ p.arrived
        l.full _ _ l.one_more l.asks_so

    pub fires_full : {before after : TableContent} → fired ≡ before.fired
        → new ≡ after.entries → fired' ≡ after.fired
        → Full image before t after (gather (alone next) 0 0 0 (ports image t.instr))
    fires_full was is are = grind (arith, puts_full, new_operands, few_ports)
