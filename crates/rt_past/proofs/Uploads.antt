-- The uploads of a past: a path has one, and what stands there is right.
use Rattle.std.proofs.Common.{◌≡◌, ◌<◌, ◌≤◌, ◌^◌, inl, inr, ℕ, Bool, true, false, cond, List, [], ◌∷◌, length, bytes_eq, Some, refl, sym, ap, subst, ◌∙◌, arith}
use Rattle.std.specs.List.{filter}
use Rattle.std.proofs.lemmas.Slice.Eq.{bytes_eq-Decides}
use Rattle.rt_base.specs.declared.numbers.Offset.{Offset}
use Rattle.rt_lists.specs.Members.{Has}
use Rattle.rt_lists.proofs.Members.{Has-place}
use Rattle.rt_lists.proofs.Lists.{All-found}
use Rattle.rt_model.specs.declared.node.Key.TheVariants as key
use Rattle.rt_model.specs.declared.request.Request.{Request}
use Rattle.rt_model.specs.declared.request.RequestKind.{RequestKind}
use Rattle.rt_model.specs.declared.request.RequestKind.TheVariants as kind
use Rattle.rt_model.specs.declared.sent.Sent.TheVariants as sent
use Rattle.rt_model.specs.declared.setup.Setup.{Setup}
use Rattle.rt_model.specs.Setup.{IsSetup}
use Rattle.rt_model.specs.History.{same_key}
use Rattle.rt_assign.specs.Placement.{replicas_of}
use Rattle.rt_assign.proofs.Ring.{setup_placed}
use Rattle.rt_deep.specs.declared.deep_put.DeepPut.{DeepPut}
use Rattle.rt_deep.specs.Files.{file_of}
use Rattle.rt_past.specs.Past.{Past}
use Rattle.rt_past.specs.Requests.{IsKind, IsRequest}
use Rattle.rt_past.specs.IsPast.{IsPast, IsRightUpload}
use Rattle.rt_past.proofs.Paths.{IsWords, one_path}

filter_short : {X : Type 0} (f : X → Bool) (xs : List X) → length (filter f xs) ≤ length xs
filter_short f [] = omega arith
filter_short f (x ∷ xs) = by_test (f x) (filter_short f xs)
  where
    by_test : (b : Bool) → length (filter f xs) ≤ length xs → length (cond b (x ∷ filter f xs) (filter f xs)) ≤ length (x ∷ xs)
    by_test true le = omega (arith, le)
    by_test false le = omega (arith, le)

words : (setup : Setup) (a : Past) (q : Request) → IsSetup setup → length a.history < 2 ^ 64 → IsRequest setup a q → IsWords q.number
words setup a q s small r =
    let listed = replicas_of q.partition setup.table.replication setup.servers in
    let at = Has-place listed q.number.instance r.assigned in
    let below = All-found (λ i. i.0 < setup.servers) listed at.0 q.number.instance (setup_placed setup q.partition s).exist at.1 in
    record {
      instance = omega (arith, below, s.few_servers);
      incarnation = omega (arith, r.incarnation, small, filter_short (λ w. same_key w.key (key.Boot q.number.instance)) a.history);
      count = r.count;
    }

pub kind_is : (setup : Setup) (a : Past) (q : Request) (start : Offset) (k : RequestKind) → q.kind ≡ k → IsKind setup a q start q.kind → IsKind setup a q start k
kind_is setup a q start k e is = subst (IsKind setup a q start) e is

pub one_upload : (setup : Setup) (a : Past) (q r : Request) (path bytes other : List ℕ) → IsSetup setup → length a.history < 2 ^ 64 → IsPast setup a
    → Has a.sent (sent.Request q) → Has a.sent (sent.Request r) → q.kind ≡ kind.Upload path bytes → r.kind ≡ kind.Upload path other → q ≡ r
one_upload setup a q r path bytes other s small k hq hr eq er =
    let first = k.requests q hq in
    let second = k.requests r hr in
    let x = kind_is setup a q first.start (kind.Upload path bytes) eq first.kind in
    let y = kind_is setup a r second.start (kind.Upload path other) er second.kind in
    k.unique q r hq hr
    (one_path x.0.name y.0.name q.number r.number (words setup a q s small first) (words setup a r s small second) (sym x.0.spelled ∙ y.0.spelled))

same_bytes : (k : RequestKind) (path bytes other : List ℕ) → k ≡ kind.Upload path bytes → k ≡ kind.Upload path other → bytes ≡ other
same_bytes k path bytes other e f = cc

-- ---- the file at a path

found_at : (f g : DeepPut) (path : List ℕ) (gs : List DeepPut) (b : Bool) → bytes_eq g.path path ≡ b → cond b (Some g) (file_of gs path) ≡ Some f
    → (file_of gs path ≡ Some f → Has gs f × (f.path ≡ path)) → Has (g ∷ gs) f × (f.path ≡ path)
found_at f g path gs true t e further =
    let same : g ≡ f = cc in
    (inl same, ap (λ (x : DeepPut). x.path) (sym same) ∙ (bytes_eq-Decides g.path path).0 t)
found_at f g path gs false t e further = let r = further e in (inr r.0, r.1)

pub found_file : (files : List DeepPut) (path : List ℕ) (f : DeepPut) → file_of files path ≡ Some f → Has files f × (f.path ≡ path)
found_file [] path f e = absurd (cc)
found_file (g ∷ gs) path f e = found_at f g path gs (bytes_eq g.path path) refl e (found_file gs path f)

-- what stands at the path of an upload has its bytes
pub own_bytes : (setup : Setup) (a : Past) (q : Request) (path bytes : List ℕ) (f : DeepPut) → IsSetup setup → length a.history < 2 ^ 64 → IsPast setup a
    → Has a.sent (sent.Request q) → q.kind ≡ kind.Upload path bytes → file_of a.files path ≡ Some f → f.bytes ≡ bytes
own_bytes setup a q path bytes f s small k has e found =
    let at = found_file a.files path f found in
    let u = k.files f at.0 in
    let kind_at : u.0.kind ≡ kind.Upload path f.bytes = u.2 ∙ ap (λ (p : List ℕ). kind.Upload p f.bytes) at.1 in
    let one = one_upload setup a u.0 q path f.bytes bytes s small k u.1 has kind_at e in
    same_bytes u.0.kind path f.bytes bytes kind_at (ap (λ (x : Request). x.kind) one ∙ e)

-- every file is right, by the request that uploaded it
pub right_upload : (setup : Setup) (a : Past) (f : DeepPut) → IsPast setup a → Has a.files f → IsRightUpload setup a f
right_upload setup a f k has =
    let u = k.files f has in
    let r = k.requests u.0 u.1 in
    record {
      request = u.0;
      was_sent = u.1;
      uploads = u.2;
      start = r.start;
      right = (kind_is setup a u.0 r.start (kind.Upload f.path f.bytes) u.2 r.kind).1;
    }
