use Rattle.std.proofs.Common.{◌+◌, sym, ap, ◌∙◌, refl}
use Rattle.std.specs.HashMap.{get_by}
use Rattle.std.specs.Str.{bytes_eq}
use Rattle.std.proofs.lemmas.Map.Text.{hash_map_updates_str}
use Rattle.seq_run.proofs.Tables.{added_new, added_again}
use Rattle.seq_run.specs.declared.table.NameNumbers.{NameNumbers}
use Rattle.seq_run.proofs.table.NameNumbers.add.Goals as goal
use Rattle.seq_run.proofs.table.NameNumbers.add.Goals.{then-not-contains_key+in_ok-insert}
use Rattle.seq_run.proofs.table.NameNumbers.add.Goals.{else-not-contains_key}

pub returns-clause-table : goal.returns-clause-table
returns-clause-table c = λ first names is.
    elim c.if-not-contains_key.branch [
      | then-not-contains_key+in_ok-insert w ↦
          added_new c.args.self.now first names c.args.name.now c.as_slice-text.result.now
          (c.args.self.now.next + 1) (record {
            numbers = c.if-not-contains_key.self.numbers;
            next = c.if-not-contains_key.self.next + 1;
          }) is c.as_slice-text.ensures
          (sym c.contains_key.ensures ∙ w.if-not-contains_key.true)
          (λ cs. ap (λ (t : NameNumbers). get_by (λ k. bytes_eq cs k.now) t.numbers) w.self-is
          ∙ hash_map_updates_str c.as_slice-text.result.now c.args.self.now.numbers w.insert.new.self _
          w.in_ok-insert.ensures.updates cs)
          refl (ap (λ (t : NameNumbers). t.next + 1) w.self-is)
      | else-not-contains_key w ↦
          added_again c.args.self.now first names c.args.name.now c.as_slice-text.result.now
          (c.args.self.now.next + 1) (record {
            numbers = c.if-not-contains_key.self.numbers;
            next = c.if-not-contains_key.self.next + 1;
          }) is c.as_slice-text.ensures
          (sym c.contains_key.ensures ∙ w.if-not-contains_key.false)
          (ap (λ (t : NameNumbers). t.numbers) w.self-is) refl
          (ap (λ (t : NameNumbers). t.next + 1) w.self-is)
    ]
