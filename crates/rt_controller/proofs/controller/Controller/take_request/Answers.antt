-- Each kind of request is answered by its own part, whichever store it leaves alone.
use Rattle.std.proofs.Common.{◌≡◌, true, ap, sym, ◌∙◌}
use Rattle.rt_controller.specs.Controller.{Controlling}
use Rattle.rt_controller.proofs.Parts.{handles_kind}
use Rattle.rt_controller.proofs.controller.Controller.take_request.Goals as goal

pub returns-in-Upload : goal.returns-in-Upload
returns-in-Upload g c =
    let leads : c.args.self.now.leads ≡ true = ap (λ (x : Controlling). x.leads) (sym c.self.view_is) ∙ c.if-not-self.false in
    handles_kind (g.S.Store.meaning c.args.store.now) (g.S.Store.meaning c.args.store.now)
    (g.D.DeepStore.meaning c.args.deep.now) (g.D.DeepStore.meaning c.upload.new.deep) c.args.self.now c.args.request.now c.args.now _
    c.args.self.now c.upload.result leads c.in-Upload.is (c.upload.ensures (g.S.Store.meaning c.args.store.now) c.args.now)

pub returns-in-Consumed : goal.returns-in-Consumed
returns-in-Consumed g c =
    let leads : c.args.self.now.leads ≡ true = ap (λ (x : Controlling). x.leads) (sym c.self.view_is) ∙ c.if-not-self.false in
    handles_kind (g.S.Store.meaning c.args.store.now) (g.S.Store.meaning c.ask.new.store)
    (g.D.DeepStore.meaning c.args.deep.now) (g.D.DeepStore.meaning c.args.deep.now) c.args.self.now c.args.request.now c.args.now _
    c.ask.new.self c.ask.result leads c.in-Consumed.is (c.ask.ensures (g.D.DeepStore.meaning c.args.deep.now))

pub returns-in-Stopped : goal.returns-in-Stopped
returns-in-Stopped g c =
    let leads : c.args.self.now.leads ≡ true = ap (λ (x : Controlling). x.leads) (sym c.self.view_is) ∙ c.if-not-self.false in
    handles_kind (g.S.Store.meaning c.args.store.now) (g.S.Store.meaning c.ask-in-Stopped.new.store)
    (g.D.DeepStore.meaning c.args.deep.now) (g.D.DeepStore.meaning c.args.deep.now) c.args.self.now c.args.request.now c.args.now _
    c.ask-in-Stopped.new.self c.ask-in-Stopped.result leads c.in-Stopped.is (c.ask-in-Stopped.ensures (g.D.DeepStore.meaning c.args.deep.now))

pub returns-in-CommitStart : goal.returns-in-CommitStart
returns-in-CommitStart g c =
    let leads : c.args.self.now.leads ≡ true = ap (λ (x : Controlling). x.leads) (sym c.self.view_is) ∙ c.if-not-self.false in
    handles_kind (g.S.Store.meaning c.args.store.now) (g.S.Store.meaning c.ask-in-CommitStart.new.store)
    (g.D.DeepStore.meaning c.args.deep.now) (g.D.DeepStore.meaning c.args.deep.now) c.args.self.now c.args.request.now c.args.now _
    c.ask-in-CommitStart.new.self c.ask-in-CommitStart.result leads c.in-CommitStart.is (c.ask-in-CommitStart.ensures (g.D.DeepStore.meaning c.args.deep.now))

pub returns-in-CommitEnd : goal.returns-in-CommitEnd
returns-in-CommitEnd g c =
    let leads : c.args.self.now.leads ≡ true = ap (λ (x : Controlling). x.leads) (sym c.self.view_is) ∙ c.if-not-self.false in
    handles_kind (g.S.Store.meaning c.args.store.now) (g.S.Store.meaning c.ask-in-CommitEnd.new.store)
    (g.D.DeepStore.meaning c.args.deep.now) (g.D.DeepStore.meaning c.args.deep.now) c.args.self.now c.args.request.now c.args.now _
    c.ask-in-CommitEnd.new.self c.ask-in-CommitEnd.result leads c.in-CommitEnd.is (c.ask-in-CommitEnd.ensures (g.D.DeepStore.meaning c.args.deep.now))

pub returns-in-Extend : goal.returns-in-Extend
returns-in-Extend g c =
    let leads : c.args.self.now.leads ≡ true = ap (λ (x : Controlling). x.leads) (sym c.self.view_is) ∙ c.if-not-self.false in
    handles_kind (g.S.Store.meaning c.args.store.now) (g.S.Store.meaning c.ask-in-Extend.new.store)
    (g.D.DeepStore.meaning c.args.deep.now) (g.D.DeepStore.meaning c.args.deep.now) c.args.self.now c.args.request.now c.args.now _
    c.ask-in-Extend.new.self c.ask-in-Extend.result leads c.in-Extend.is (c.ask-in-Extend.ensures (g.D.DeepStore.meaning c.args.deep.now))
