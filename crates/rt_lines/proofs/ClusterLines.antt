-- The lines that are read as clusters are those that spell them.
use Rattle.std.proofs.Common.{◌≡◌, ◌⊎◌, inl, inr, ℕ, ◌==◌, Bool, true, false, if◌then◌else◌, List, [], ◌∷◌, ◌++◌, Option, Some, None, refl, sym, ap, subst, ◌∙◌}
use Rattle.std.specs.Prelude.{◌↔◌, codes}
use Rattle.std.proofs.lemmas.Bool.{eqb-true}
use Rattle.std.proofs.lemmas.List.{append-nil}
use Rattle.rt_lines.specs.declared.cluster.Cluster.{Cluster}
use Rattle.rt_lines.specs.declared.cluster.Options.{Options}
use Rattle.rt_lines.specs.Cluster.{cluster_of, end_by, end_of, format_of, formatted, next_field, no_options, option_by, options_by, options_of, retained}
use Rattle.rt_lines.specs.ClusterLine.{IsClusterLine, SaysFormat, SaysRetention, Spells}
use Rattle.rt_lines.specs.Words.{after_prefix, field_of, parted_at, then_some}
use Rattle.rt_lines.proofs.PartsOfLines.{field_read, field_said, lacks_joined, next_read, next_said, numeral_lacks, parted_none, parted_read, parted_said, prefix_read, prefix_said, same_some, then_found}

-- formats
abbrev one_of_two : ℕ → Option ℕ
one_of_two f = if f == 1 then Some 1 else (if f == 2 then Some 2 else None)

two_said : (n f : ℕ) (first second : Bool) → (n == 1) ≡ first → (n == 2) ≡ second → (if first then Some 1 else (if second then Some 2 else None)) ≡ Some f → (n ≡ f) × ((f ≡ 1) ⊎ (f ≡ 2))
two_said n f true second a b e = let is : 1 ≡ f = same_some 1 f e in (eqb-true n 1 a ∙ is, inl (sym is))
two_said n f false true a b e = let is : 2 ≡ f = same_some 2 f e in (eqb-true n 2 b ∙ is, inr (sym is))
two_said n f false false a b e = cc

format_said : (word : List ℕ) (f : ℕ) → format_of word ≡ Some f → SaysFormat (32 ∷ word) f
format_said word f e =
    let found = then_found (field_of (codes "format=") word) one_of_two f e in
    let said = field_said (codes "format=") word found.0 found.1 in
    let which = two_said found.0 f (found.0 == 1) (found.0 == 2) refl refl found.2 in
    inr (said.0, ap (λ xs. 32 ∷ xs) said.1, subst (Spells said.0) which.0 said.2, which.1)

two_read : (f : ℕ) → (f ≡ 1) ⊎ (f ≡ 2) → one_of_two f ≡ Some f
two_read f (inl e) = subst (λ n. one_of_two n ≡ Some n) (sym e) refl
two_read f (inr e) = subst (λ n. one_of_two n ≡ Some n) (sym e) refl

format_read : (word : List ℕ) (f : ℕ) → Spells word f → (f ≡ 1) ⊎ (f ≡ 2) → format_of (codes "format=" ++ word) ≡ Some f
format_read word f k one = ap (λ o. then_some o one_of_two) (field_read (codes "format=") word f k) ∙ two_read f one

-- what stands behind the grace
record IsOptions (text : List ℕ) (options : Options) : Type 0 where
  retention : List ℕ
  format : List ℕ
  whole : 32 ∷ text ≡ retention ++ format
  says_retention : SaysRetention retention options.retention
  says_format : SaysFormat format options.format

option_said : (text : List ℕ) (n : Option ℕ) (o : Options) → field_of (codes "retention=") text ≡ n → option_by n text ≡ Some o → IsOptions text o
option_said text (Some n) o is e =
    let (digits, whole, says) = field_said (codes "retention=") text n is in
    let made : IsOptions text (retained n 2) =
    record {
      retention = codes " retention=" ++ digits;
      format = [];
      whole = ap (λ xs. 32 ∷ xs) whole ∙ sym (append-nil (codes " retention=" ++ digits));
      says_retention = (digits, refl, says);
      says_format = inl (refl, refl);
    } in
    subst (IsOptions text) (same_some (retained n 2) o e) made
option_said text None o is e =
    let (format, read, same) = then_found (format_of text) (λ format. Some (formatted format)) o e in
    let made : IsOptions text (formatted format) =
    record { retention = []; format = 32 ∷ text; whole = refl; says_retention = refl; says_format = format_said text format read } in
    subst (IsOptions text) (same_some (formatted format) o same) made

options_said : (text : List ℕ) (parts : Option (List ℕ × List ℕ)) (o : Options) → parted_at 32 text ≡ parts → options_by parts text ≡ Some o → IsOptions text o
options_said text None o is e = option_said text (field_of (codes "retention=") text) o refl e
options_said text (Some words) o is e =
    let (n, kept, rest) = then_found (field_of (codes "retention=") words.0) (λ n. then_some (format_of words.1) (λ format. Some (retained n format))) o e in
    let (format, read, same) = then_found (format_of words.1) (λ format. Some (retained n format)) o rest in
    let (digits, whole, says) = field_said (codes "retention=") words.0 n kept in
    let made : IsOptions text (retained n format) =
    record {
      retention = codes " retention=" ++ digits;
      format = 32 ∷ words.1;
      whole = ap (λ xs. 32 ∷ xs) (parted_said 32 text words is ∙ ap (λ xs. xs ++ 32 ∷ words.1) whole);
      says_retention = (digits, refl, says);
      says_format = format_said words.1 format read;
    } in
    subst (IsOptions text) (same_some (retained n format) o same) made

retention_read : (word : List ℕ) (n : ℕ) → Spells word n → options_of (codes "retention=" ++ word) ≡ Some (retained n 2)
retention_read word n k =
    let text = codes "retention=" ++ word in
    ap (λ o. options_by o text) (parted_none 32 text (lacks_joined 32 (codes "retention=") word refl (numeral_lacks 32 word refl k.numeral)))
    ∙ ap (λ o. option_by o text) (field_read (codes "retention=") word n k)

only_format_read : (word : List ℕ) (f : ℕ) → Spells word f → (f ≡ 1) ⊎ (f ≡ 2) → options_of (codes "format=" ++ word) ≡ Some (formatted f)
only_format_read word f k one =
    let text = codes "format=" ++ word in
    ap (λ o. options_by o text) (parted_none 32 text (lacks_joined 32 (codes "format=") word refl (numeral_lacks 32 word refl k.numeral)))
    ∙ ap (λ o. then_some o (λ format. Some (formatted format))) (format_read word f k one)

both_read : (kept word : List ℕ) (n f : ℕ) → Spells kept n → Spells word f → (f ≡ 1) ⊎ (f ≡ 2) → options_of (codes "retention=" ++ (kept ++ 32 ∷ (codes "format=" ++ word))) ≡ Some (retained n f)
both_read kept word n f k l one =
    let rest = codes "format=" ++ word in
    let text = codes "retention=" ++ (kept ++ 32 ∷ rest) in
    ap (λ o. options_by o text) (parted_read 32 (codes "retention=" ++ kept) rest (lacks_joined 32 (codes "retention=") kept refl (numeral_lacks 32 kept refl k.numeral)))
    ∙ ap (λ o. then_some o (λ n. then_some (format_of rest) (λ format. Some (retained n format)))) (field_read (codes "retention=") kept n k)
    ∙ ap (λ o. then_some o (λ format. Some (retained n format))) (format_read word f l one)

-- the grace and what stands behind it
abbrev ended : ℕ → Options → ℕ × Options
ended grace options = (grace, options)

record IsEnd (text : List ℕ) (end : ℕ × Options) : Type 0 where
  grace : List ℕ
  retention : List ℕ
  format : List ℕ
  whole : text ≡ codes "grace=" ++ (grace ++ (retention ++ format))
  says_grace : Spells grace end.0
  says_retention : SaysRetention retention end.1.retention
  says_format : SaysFormat format end.1.format

end_said : (text : List ℕ) (parts : Option (List ℕ × List ℕ)) (end : ℕ × Options) → parted_at 32 text ≡ parts → end_by parts text ≡ Some end → IsEnd text end
end_said text None end is e =
    let (n, read, same) = then_found (field_of (codes "grace=") text) (λ grace. Some (ended grace no_options)) end e in
    let (digits, whole, says) = field_said (codes "grace=") text n read in
    let made : IsEnd text (ended n no_options) =
    record {
      grace = digits;
      retention = [];
      format = [];
      whole = whole ∙ ap (λ xs. codes "grace=" ++ xs) (sym (append-nil digits));
      says_grace = says;
      says_retention = refl;
      says_format = inl (refl, refl);
    } in
    subst (IsEnd text) (same_some (ended n no_options) end same) made
end_said text (Some parts) end is e =
    let (n, read, rest) = then_found (field_of (codes "grace=") parts.0) (λ grace. then_some (options_of parts.1) (λ options. Some (ended grace options))) end e in
    let (options, found, same) = then_found (options_of parts.1) (λ options. Some (ended n options)) end rest in
    let (digits, whole, says) = field_said (codes "grace=") parts.0 n read in
    let more = options_said parts.1 (parted_at 32 parts.1) options refl found in
    let made : IsEnd text (ended n options) =
    record {
      grace = digits;
      retention = more.retention;
      format = more.format;
      whole = parted_said 32 text parts is ∙ ap (λ xs. xs ++ 32 ∷ parts.1) whole ∙ ap (λ xs. codes "grace=" ++ (digits ++ xs)) more.whole;
      says_grace = says;
      says_retention = more.says_retention;
      says_format = more.says_format;
    } in
    subst (IsEnd text) (same_some (ended n options) end same) made

grace_read : (word : List ℕ) (n : ℕ) → Spells word n → end_of (codes "grace=" ++ word) ≡ Some (ended n no_options)
grace_read word n k =
    let text = codes "grace=" ++ word in
    ap (λ o. end_by o text) (parted_none 32 text (lacks_joined 32 (codes "grace=") word refl (numeral_lacks 32 word refl k.numeral)))
    ∙ ap (λ o. then_some o (λ grace. Some (ended grace no_options))) (field_read (codes "grace=") word n k)

more_read : (word rest : List ℕ) (n : ℕ) (options : Options) → Spells word n → options_of rest ≡ Some options → end_of (codes "grace=" ++ (word ++ 32 ∷ rest)) ≡ Some (ended n options)
more_read word rest n options k e =
    let text = codes "grace=" ++ (word ++ 32 ∷ rest) in
    ap (λ o. end_by o text) (parted_read 32 (codes "grace=" ++ word) rest (lacks_joined 32 (codes "grace=") word refl (numeral_lacks 32 word refl k.numeral)))
    ∙ ap (λ o. then_some o (λ grace. then_some (options_of rest) (λ options. Some (ended grace options)))) (field_read (codes "grace=") word n k)
    ∙ ap (λ o. then_some o (λ options. Some (ended n options))) e

-- the end of a line whose options are these pieces
abbrev end_with : List ℕ → List ℕ → Option (ℕ × Options)
end_with grace pieces = end_of (codes "grace=" ++ (grace ++ pieces))

abbrev chosen : Option ℕ → ℕ → Options
chosen retention format = record { retention = retention; format = format }

end_read : (grace retention format : List ℕ) (n : ℕ) (kept : Option ℕ) (f : ℕ) → Spells grace n → SaysRetention retention kept → SaysFormat format f → end_with grace (retention ++ format) ≡ Some (ended n (chosen kept f))
end_read grace retention format n None f k none (inl last) =
    ap (λ xs. end_with grace (xs ++ format)) none
    ∙ ap (end_with grace) last.0
    ∙ ap (λ xs. end_of (codes "grace=" ++ xs)) (append-nil grace)
    ∙ grace_read grace n k
    ∙ ap (λ m. Some (ended n (chosen None m))) (sym last.1)
end_read grace retention format n None f k none (inr (word, is, says, one)) =
    ap (λ xs. end_with grace (xs ++ format)) none
    ∙ ap (end_with grace) is
    ∙ more_read grace (codes "format=" ++ word) n (formatted f) k (only_format_read word f says one)
end_read grace retention format n (Some m) f k (digits, is, says) (inl last) =
    ap (λ xs. end_with grace (xs ++ format)) is
    ∙ ap (λ xs. end_with grace ((codes " retention=" ++ digits) ++ xs)) last.0
    ∙ ap (end_with grace) (append-nil (codes " retention=" ++ digits))
    ∙ more_read grace (codes "retention=" ++ digits) n (retained m 2) k (retention_read digits m says)
    ∙ ap (λ x. Some (ended n (chosen (Some m) x))) (sym last.1)
end_read grace retention format n (Some m) f k (digits, is, says) (inr (word, at, spelled, one)) =
    ap (λ xs. end_with grace (xs ++ format)) is
    ∙ ap (λ xs. end_with grace ((codes " retention=" ++ digits) ++ xs)) at
    ∙ more_read grace (codes "retention=" ++ (digits ++ 32 ∷ (codes "format=" ++ word))) n (retained m f) k (both_read digits word m f says spelled one)

-- whole lines
abbrev made_of : ℕ → ℕ → ℕ → ℕ → ℕ × Options → Cluster
made_of servers controllers partitions start end =
    record { servers = servers; controllers = controllers; partitions = partitions; start = start; grace = end.0; options = end.1 }

abbrev with_start : ℕ → ℕ → ℕ → ℕ × List ℕ → Option Cluster
with_start servers controllers partitions start = then_some (end_of start.1) (λ end. Some (made_of servers controllers partitions start.0 end))

abbrev with_partitions : ℕ → ℕ → ℕ × List ℕ → Option Cluster
with_partitions servers controllers partitions = then_some (next_field (codes "start=") partitions.1) (with_start servers controllers partitions.0)

abbrev with_controllers : ℕ → ℕ × List ℕ → Option Cluster
with_controllers servers controllers = then_some (next_field (codes "partitions=") controllers.1) (with_partitions servers controllers.0)

abbrev with_servers : ℕ × List ℕ → Option Cluster
with_servers servers = then_some (next_field (codes "controllers=") servers.1) (with_controllers servers.0)

abbrev with_text : List ℕ → Option Cluster
with_text text = then_some (next_field (codes "servers=") text) with_servers

spelled_read : (line : List ℕ) (c : Cluster) → IsClusterLine line c → cluster_of line ≡ Some c
spelled_read line c k =
    let end = codes "grace=" ++ (k.grace ++ (k.retention ++ k.format)) in
    let start = codes "start=" ++ (k.start ++ 32 ∷ end) in
    let partitions = codes "partitions=" ++ (k.partitions ++ 32 ∷ start) in
    let controllers = codes "controllers=" ++ (k.controllers ++ 32 ∷ partitions) in
    let servers = codes "servers=" ++ (k.servers ++ 32 ∷ controllers) in
    ap cluster_of k.whole
    ∙ ap (λ o. then_some o with_text) (prefix_read (codes "cluster ") servers)
    ∙ ap (λ o. then_some o with_servers) (next_read (codes "servers=") k.servers controllers c.servers refl k.says_servers)
    ∙ ap (λ o. then_some o (with_controllers c.servers)) (next_read (codes "controllers=") k.controllers partitions c.controllers refl k.says_controllers)
    ∙ ap (λ o. then_some o (with_partitions c.servers c.controllers)) (next_read (codes "partitions=") k.partitions start c.partitions refl k.says_partitions)
    ∙ ap (λ o. then_some o (with_start c.servers c.controllers c.partitions)) (next_read (codes "start=") k.start end c.start refl k.says_start)
    ∙ ap (λ o. then_some o (λ end. Some (made_of c.servers c.controllers c.partitions c.start end))) (end_read k.grace k.retention k.format c.grace c.options.retention c.options.format k.says_grace k.says_retention k.says_format)

whole_line : (line text sv st cv ct pv pt bv bt ev : List ℕ) → line ≡ codes "cluster " ++ text → text ≡ codes "servers=" ++ (sv ++ 32 ∷ st) → st ≡ codes "controllers=" ++ (cv ++ 32 ∷ ct)
    → ct ≡ codes "partitions=" ++ (pv ++ 32 ∷ pt) → pt ≡ codes "start=" ++ (bv ++ 32 ∷ bt) → bt ≡ codes "grace=" ++ ev
    → line ≡ codes "cluster servers=" ++ (sv ++ (codes " controllers=" ++ (cv ++ (codes " partitions=" ++ (pv ++ (codes " start=" ++ (bv ++ (codes " grace=" ++ ev))))))))
whole_line line text sv st cv ct pv pt bv bt ev a b c d e f =
    a
    ∙ ap (λ xs. codes "cluster " ++ xs) b
    ∙ ap (λ xs. codes "cluster servers=" ++ (sv ++ 32 ∷ xs)) c
    ∙ ap (λ xs. codes "cluster servers=" ++ (sv ++ (codes " controllers=" ++ (cv ++ 32 ∷ xs)))) d
    ∙ ap (λ xs. codes "cluster servers=" ++ (sv ++ (codes " controllers=" ++ (cv ++ (codes " partitions=" ++ (pv ++ 32 ∷ xs)))))) e
    ∙ ap (λ xs. codes "cluster servers=" ++ (sv ++ (codes " controllers=" ++ (cv ++ (codes " partitions=" ++ (pv ++ (codes " start=" ++ (bv ++ 32 ∷ xs)))))))) f

read_spelled : (line : List ℕ) (c : Cluster) → cluster_of line ≡ Some c → IsClusterLine line c
read_spelled line c e =
    let (text, begun, in_text) = then_found (after_prefix (codes "cluster ") line) with_text c e in
    let (servers, has_servers, in_servers) = then_found (next_field (codes "servers=") text) with_servers c in_text in
    let (controllers, has_controllers, in_controllers) = then_found (next_field (codes "controllers=") servers.1) (with_controllers servers.0) c in_servers in
    let (partitions, has_partitions, in_partitions) = then_found (next_field (codes "partitions=") controllers.1) (with_partitions servers.0 controllers.0) c in_controllers in
    let (start, has_start, in_start) = then_found (next_field (codes "start=") partitions.1) (with_start servers.0 controllers.0 partitions.0) c in_partitions in
    let (end, has_end, same) = then_found (end_of start.1) (λ end. Some (made_of servers.0 controllers.0 partitions.0 start.0 end)) c in_start in
    let sv = next_said (codes "servers=") text servers has_servers in
    let cv = next_said (codes "controllers=") servers.1 controllers has_controllers in
    let pv = next_said (codes "partitions=") controllers.1 partitions has_partitions in
    let bv = next_said (codes "start=") partitions.1 start has_start in
    let ev = end_said start.1 (parted_at 32 start.1) end refl has_end in
    let made : IsClusterLine line (made_of servers.0 controllers.0 partitions.0 start.0 end) =
    record {
      servers = sv.word;
      controllers = cv.word;
      partitions = pv.word;
      start = bv.word;
      grace = ev.grace;
      retention = ev.retention;
      format = ev.format;
      whole = whole_line line text sv.word servers.1 cv.word controllers.1 pv.word partitions.1 bv.word start.1 (ev.grace ++ (ev.retention ++ ev.format)) (prefix_said (codes "cluster ") line text begun) sv.whole cv.whole pv.whole bv.whole ev.whole;
      says_servers = sv.says;
      says_controllers = cv.says;
      says_partitions = pv.says;
      says_start = bv.says;
      says_grace = ev.says_grace;
      says_retention = ev.says_retention;
      says_format = ev.says_format;
    } in
    subst (IsClusterLine line) (same_some (made_of servers.0 controllers.0 partitions.0 start.0 end) c same) made

pub lines_spelled : (line : List ℕ) (c : Cluster) → (cluster_of line ≡ Some c) ↔ IsClusterLine line c
lines_spelled line c = (read_spelled line c, spelled_read line c)
