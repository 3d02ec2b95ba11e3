-- What tables and a buffer owe is right.
use Rattle.std.proofs.Common.{arith, ◌≡◌, ◌<◌, ℕ, suc, Bool, true, false, cond, List, Some, length, All}
use Rattle.std.proofs.Common.{slice_index_or, slice_index, sym, ap, ◌∙◌, subst}
use Rattle.std.proofs.lemmas.List.Elements.{All-get_or}
use Rattle.ws_words.specs.Outside.{Outside, World}
use Rattle.ws_isa.specs.declared.instr.Op.{Op}
use Rattle.ws_isa.specs.declared.instr.Dest.{Dest}
use Rattle.ws_isa.specs.Image.{Image, instr_at, ports, is_memory, is_memory_op, is_advance_op, selector_of}
use Rattle.ws_isa.specs.Image.{result_of, result_of_op, sends, tokens_to}
use Rattle.ws_isa.specs.Formed.{Formed}
use Rattle.ws_isa.specs.Sound.{Sound}
use Rattle.ws_isa.specs.Walk.{Inst}
use Rattle.df_core.specs.Core.{Key, HasFired, IsSent, operands_in}
use Rattle.df_core.specs.Fit.{FiresAt, RightToken, RightRequest}
use Rattle.df_core.specs.Shown.{Tables, Buffer, TablesOk, BufferOk}
use Rattle.df_core.proofs.Walked.Facts.{WalkFacts}
use Rattle.df_core.proofs.Walked.FromSound.{facts_of}
use Rattle.df_core.proofs.Keeping.MatchKept.{same_inst, right_operands}
use Rattle.df_core.proofs.Walked.PortsThere.{ports_there}
use Rattle.df_core.specs.Places.{destinations}
use Rattle.df_core.proofs.Parts.Arriving.{ports_is_op, memory_is_op, sends_are, result_is_op}
use Rattle.df_core.specs.Rights.{operands_of}
use Rattle.match_table.specs.declared.meeting.Operands.{Operands}
use Rattle.match_table.specs.declared.table.Fired.{Fired}
use Rattle.match_table.specs.Ports.{listed}
use Rattle.match_table.specs.Tables.{held, key_of, of_memory, part, TableContent}
use Rattle.store_buf.specs.declared.kept.Kept.{Kept}
use Rattle.store_buf.specs.Requests.{entry_of, operands_if, answer_if}
use Rattle.store_buf.specs.Contents as buf
use Rattle.store_buf.specs.Contents.{buffer_in}
use Rattle.store_buf.specs.Ordering.{no_request}
use Rattle.match_table.proofs.FiredPlaces.{none_fired, fired_there, asked_fired}
use Rattle.match_table.proofs.Answered.{memory_two, request_operands as two_operands}

-- whether the instruction that the code has looked up is one of memory
pub code_memory : (image im : Image) (i : ℕ) (op : Op) (b : Bool) → op ≡ (instr_at im i).op → im ≡ image
    → b ≡ is_memory_op op → is_memory image i ≡ b
code_memory image im i op b is same e = grind (arith, memory_is_op)

pub code_op : (image im : Image) (i : ℕ) (op : Op) → op ≡ (instr_at im i).op → im ≡ image
    → op ≡ (instr_at image i).op
code_op image im i op is same = is ∙ ap (λ (x : Image). (instr_at x i).op) same

-- the tokens of an instance by what the code looks up
pub code_sent : (image im : Image) (w i : ℕ) (op : Op) (number word choice : ℕ) (dests : List Dest)
    → op ≡ (instr_at image i).op → number ≡ cond (is_advance_op op) (suc w) w
    → dests ≡ destinations im i choice → im ≡ image →
    tokens_to number word dests ≡ tokens_to (cond (is_advance_op (instr_at image i).op) (suc w) w) word
    (destinations image i choice)
code_sent image im w i op number word choice dests o n d same = grind arith

module _ (image : Image) (w i : ℕ) where
  -- the tokens of an instance as the code makes them
  pub sent_is : (op : Op) (xs : List ℕ) (choice word : ℕ) → op ≡ (instr_at image i).op
      → choice ≡ selector_of op xs → word ≡ result_of_op op xs →
      tokens_to (cond (is_advance_op (instr_at image i).op) (suc w) w) word (destinations image i choice)
      ≡ sends image w i xs (result_of image i xs)
  sent_is op xs choice word o c v = grind (arith, result_is_op, sends_are)

  no_choice : (op : Op) (xs : List ℕ) → is_memory_op op ≡ true → 0 ≡ selector_of op xs
  no_choice v0 v1 v2 = grind arith

  pub answer_is : (xs : List ℕ) (word : ℕ) → is_memory image i ≡ true →
      tokens_to (cond (is_advance_op (instr_at image i).op) (suc w) w) word (destinations image i 0)
      ≡ sends image w i xs word
  answer_is xs word m = ap (λ (k : ℕ). tokens_to (cond (is_advance_op (instr_at image i).op) (suc w) w) word
      (destinations image i k)) (no_choice _ _ (sym (memory_is_op _ _) ∙ m)) ∙ sends_are _ _ _ _ _

module _ (image : Image) (world : World) (formed : Formed image) (sound : Sound image) where
  facts : WalkFacts image world
  facts = facts_of image world (ports_there image formed) sound

  module _ (t : Tables) (ok : TablesOk image world t) where
    -- the walk's instance of one that is listed
    record ListedInst (w i : ℕ) : Type 0 where
      pub time : ℕ
      pub inst : Inst
      pub at : FiresAt image world w i time inst
      pub operands : operands_in image t.held w i ≡ inst.operands

    listed_inst : (w i : ℕ) → HasFired t.fired w i → ListedInst w i
    listed_inst w i h =
        let f = ok.fired_full w i h in
        let g = f.1 0 f.0 in
        let r : RightToken image world w i 0 g.0 = ok.right w i 0 g.0 g.1 in
        record {
          time = r.time;
          inst = r.inst;
          at = r.at;
          operands = right_operands image world facts t.held w
              i r.time r.inst r.at (ok.right w i) f.1;
        }

    module _ (f : Fired) (fired : HasFired t.fired f.wave f.instr)
        (operands : listed f.operands ≡ operands_in image t.held f.wave f.instr) where
      pub asks_right : is_memory image f.instr ≡ true → RightRequest image world f.wave f.instr
          (listed f.operands)
      asks_right m = grind (arith, listed_inst f.wave f.instr fired)

      pub sends_right : is_memory image f.instr ≡ false → (w i p v : ℕ)
          → IsSent (sends image f.wave f.instr (listed f.operands)
          (result_of image f.instr (listed f.operands))) w i p v → RightToken image world w i p v
      sends_right m w i p v s =
          let l = listed_inst _ _ fired in
          let ops : listed f.operands ≡ l.inst.operands = operands ∙ l.operands in
          let res : result_of image f.instr (listed f.operands) ≡ l.inst.result =
          ap (λ (k : ℕ × List ℕ). result_of image k.0 k.1) (λ j. (sym l.at.instr j, ops j))
          ∙ sym (facts.plain l.time l.inst l.at.fires (ap (is_memory image) l.at.instr ∙ m)) in
          facts.sent l.time l.inst l.at.fires w i p v (subst (λ (k : ℕ × ℕ × List ℕ × ℕ). IsSent (sends image
          k.0 k.1 k.2 k.3) w i p v) (λ j. (sym l.at.wave j, sym l.at.instr j, ops j, res j)) s)

  -- its request as the code makes it
  pub request_right : (w i first second : ℕ) (o : Operands) → RightRequest image world w i (listed o)
      → first ≡ slice_index (listed o) 0 → second ≡ slice_index (listed o) 1
      → RightRequest image world w i (operands_of (ports image i) first second)
  request_right w i first second o r a b =
      let n : ports image i ≡ length (listed o) = sym (ap (ports image) r.at.instr)
      ∙ sym (facts.filled r.time r.inst r.at.fires) ∙ ap length r.operands in
      grind (arith, ports_is_op, memory_two, memory_is_op, two_operands)

  -- the result tokens of an issued operation
  pub answers_right : (b : Buffer) → BufferOk image world b → (w i a : ℕ) (xs : List ℕ) → b.kept w i ≡ Some xs
      → b.issued w i ≡ Some a → (u j p v : ℕ) → IsSent (sends image w i xs a) u j p v
      → RightToken image world u j p v
  answers_right b ok w i a xs k e u j p v s =
      let r : RightRequest image world w i xs = ok.right w i xs k in
      let op = ok.legal.ordered.others w i a e in
      let same : op.inst ≡ r.inst = same_inst _ _ facts _ _ _ _ _ _ op.at r.at in
      let ops : xs ≡ r.inst.operands = sym r.operands in
      let res : a ≡ r.inst.result = op.answer ∙ ap (λ (y : Inst). y.result) same in
      facts.sent r.time r.inst r.at.fires u j p v (subst (λ (k : ℕ × ℕ × List ℕ × ℕ). IsSent (sends image k.0
      k.1 k.2 k.3) u j p v) (λ j. (sym r.at.wave j, sym r.at.instr j, ops j, res j)) s)

  module _ (c : TableContent) (ok : TablesOk image world (part c)) (f : Fired)
      (operands : listed f.operands ≡ operands_in image (held c) f.wave f.instr) (k : ℕ) where
    there : (ks : List Key) → k < length ks → ((d : Key) → slice_index_or ks k d ≡ key_of f)
        → HasFired ks f.wave f.instr
    there ks lt at = subst (λ (y : Key). HasFired ks y.wave y.instr) (at none_fired) (fired_there ks k lt)

    pub asks_at : k < length (of_memory image c.fired)
        → ((d : Key) → slice_index_or (of_memory image c.fired) k d ≡ key_of f)
        → RightRequest image world f.wave f.instr (listed f.operands)
    asks_at lt at = let h = asked_fired _ _ _ _ (there _ lt at) in asks_right _ ok _ h.0 operands h.1

    pub sends_at : k < length c.fired → ((d : Key) → slice_index_or c.fired k d ≡ key_of f)
        → is_memory image f.instr ≡ false → (w i p v : ℕ)
        → IsSent (sends image f.wave f.instr (listed f.operands)
        (result_of image f.instr (listed f.operands))) w i p v → RightToken image world w i p v
    sends_at lt at = sends_right (part c) ok f (there c.fired lt at) operands

  module _ (c : buf.Content) (m : Outside) (ok : BufferOk image world (buffer_in image c m))
      (once : All (λ (k : Kept). entry_of c.kept k.wave k.instr ≡ Some k) c.kept) (ks : List Kept)
      (is : ks ≡ c.kept) (j : ℕ) (lt : j < length ks) where
    abbrev this : Kept
    this = slice_index_or ks j no_request

    own : entry_of c.kept this.wave this.instr ≡ Some this
    own = grind (arith, All-get_or)

    pub memory_at : is_memory image this.instr ≡ true
    memory_at = let r : RightRequest image world this.wave this.instr
        (operands_of (ports image this.instr) this.first this.second) =
        ok.right this.wave this.instr _ (ap (operands_if image) own) in r.memory

    pub answers_at : (a w i p v : ℕ) → this.answer ≡ Some a
        → IsSent (sends image this.wave this.instr (operands_of (ports image this.instr) this.first
        this.second) a) w i p v → RightToken image world w i p v
    answers_at a w i p v e s = answers_right _ ok _ _ _ _ (ap (operands_if image) own) (ap answer_if own ∙ e)
        _ _ _ _ s
