-- Lists of what was done, with one thing more.
use Rattle.std.proofs.Common.{◌≡◌, ◌⊎◌, inl, inr, List, [], ◌∷◌, ◌++◌, append-nil, append_assoc, sym, ap, ◌∙◌, subst}
use Rattle.std.specs.Prelude.{map}
use Rattle.rt_lists.specs.Members.{Has}
use Rattle.rt_lists.proofs.Members.{Has-append_cases, Has-append_left, Has-append_right, Has-map, map-Has}
use Rattle.rt_live_names.specs.Fronts.{messages}
use Rattle.rt_model.specs.declared.reply.Reply.{Reply}
use Rattle.rt_model.specs.declared.request.Request.{Request}
use Rattle.rt_model.specs.declared.sent.Sent.{Sent}
use Rattle.rt_model.specs.declared.sent.Sent.TheVariants as sent
use Rattle.rt_live_controller.specs.Did.{all_in}

pub all_in_more : {D X : Type 0} (f : D → List X) (ds : List D) (d : D) → all_in f (ds ++ d ∷ []) ≡ all_in f ds ++ f d
all_in_more f [] d = append-nil (f d)
all_in_more {X = X} f (x ∷ ds) d =
    ap (λ (xs : List X). f x ++ xs) (all_in_more f ds d) ∙ sym (append_assoc (f x) (all_in f ds) (f d))

-- ---- messages

at_image : {X : Type 0} (f : X → Sent) (xs ys : List X) → ((x : X) → Has xs x → Has ys x) → (m : Sent) → Has (map f xs) m → Has (map f ys) m
at_image f xs ys more m h =
    let x = Has-map f xs m h in
    subst (Has (map f ys)) x.2 (map-Has f ys x.0 (more x.0 x.1))

pub messages_more : (rs rs2 : List Request) (ps ps2 : List Reply) → ((r : Request) → Has rs r → Has rs2 r) → ((p : Reply) → Has ps p → Has ps2 p)
    → (m : Sent) → Has (messages rs ps) m → Has (messages rs2 ps2) m
messages_more rs rs2 ps ps2 requests replies m h =
    either (Has-append_cases (map sent.Request rs) (map sent.Reply ps) m h)
  where
    either : Has (map sent.Request rs) m ⊎ Has (map sent.Reply ps) m → Has (messages rs2 ps2) m
    either (inl a) = Has-append_left (map sent.Request rs2) (map sent.Reply ps2) m (at_image sent.Request rs rs2 requests m a)
    either (inr a) = Has-append_right (map sent.Request rs2) (map sent.Reply ps2) m (at_image sent.Reply ps ps2 replies m a)

pub message_of : (rs : List Request) (ps : List Reply) (r : Request) → Has rs r → Has (messages rs ps) (sent.Request r)
message_of rs ps r h = Has-append_left (map sent.Request rs) (map sent.Reply ps) (sent.Request r) (map-Has sent.Request rs r h)
