use Rattle.std.proofs.Common.{[], sym, subst}
use Rattle.ws_isa.specs.Image as plain
use Rattle.ws_isa.specs.Formed.{Formed}
use Rattle.ws_isa.specs.Sound.{Sound}
use Rattle.df_core.specs.Places.{image_of}
use Rattle.df_core.specs.Answer.{RunSo}
use Rattle.df_core.specs.Ends.{AfterFired}
use Rattle.df_core.specs.Told.{run_from}
use Rattle.df_core.proofs.Telling.Saying.{answers, told_at, spends}
use Rattle.df_core.proofs.Keeping.Reached.{Kept}
use Rattle.df_core.proofs.engine.Core.run.Goals as goal
use Rattle.df_core.specs.Flows.{FlowIs, Reaches}

pub returns-clause-answer : goal.returns-clause-answer
returns-clause-answer c = λ image world s at.
    let here = image_of c.args.self.now.program in
    let a = answers here world c.args.budget c.run.result c.args.self.now.flow c.run.new.flow s
    (subst Formed (sym at.image_is) at.formed) (subst Sound (sym at.image_is) at.sound)
    (subst (λ (i : plain.Image). FlowIs i world [] c.args.self.now.flow s) (sym at.image_is) at.holds)
    c.run.ensures.within c.run.ensures.finish in
    record {
      state = a.state;
      reached = subst (λ (i : plain.Image). Reaches i s a.state) at.image_is a.reached;
      at = record {
        image_is = at.image_is;
        formed = at.formed;
        sound = at.sound;
        holds = subst (λ (i : plain.Image). FlowIs i world [] c.run.new.flow a.state) at.image_is a.holds;
      };
      so = subst (λ (i : plain.Image). RunSo i world c.args.budget (run_from c.run.result
          (told_at a.state c.run.new.flow))) at.image_is a.so;
    }

pub returns-clause-spent : goal.returns-clause-spent
returns-clause-spent c = λ image world s at.
    let here = image_of c.args.self.now.program in
    let formed : Formed here = subst Formed (sym at.image_is) at.formed in
    let sound : Sound here = subst Sound (sym at.image_is) at.sound in
    let r = c.run.ensures.finish world s formed sound
    (subst (λ (i : plain.Image). FlowIs i world [] c.args.self.now.flow s) (sym at.image_is) at.holds) in
    let held : FlowIs here world [] c.run.new.flow r.0 = r.2 in
    let k : Kept here world r.0 = record {
      fit = held.stands.fit;
      grounded = held.stands.grounded;
      once = held.stands.once;
    } in (
      r.0,
      record {
        image_is = at.image_is;
        formed = at.formed;
        sound = at.sound;
        holds = subst (λ (i : plain.Image). FlowIs i world [] c.run.new.flow r.0) at.image_is held;
      },
      λ e. (let a = spends here world c.args.budget c.run.result r.0 formed sound k r.3 e in
          subst (λ (i : plain.Image). (p : _) × AfterFired i world r.0 p) at.image_is a),
    )
