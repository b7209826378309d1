-- The text of the reply that an echo's answer becomes.
use Rattle.std.proofs.Common.{◌≡◌, ℕ, Bool, true, false, not, if◌then◌else◌, List, [], ◌++◌, codes, decimal, refl, sym, ap, ◌∙◌}
use Rattle.std.proofs.lemmas.List.{append_assoc}
use Rattle.std.proofs.lemmas.List.Concat.{flat_map-append}
use Rattle.kg_message.specs.HeaderLists.{content_type}
use Rattle.kg_message.specs.declared.header.Header.{Header}
use Rattle.kg_context.specs.Echo.{echo_of}
use Rattle.kg_context.specs.declared.upstream.Upstream.TheVariants.{Answered}
use Rattle.kg_print.specs.FieldLines.{field_line, field_lines, line_end, stated_length}
use Rattle.kg_print.specs.ReplyText.{keeping_fields, phrase, reply_text}
use Rattle.kg_print.specs.declared.connection.Keeping.{Keeping}
use Rattle.kg_upstream.specs.UpstreamMessage.{reply_of}
use Rattle.kg_direct.specs.EchoText.{head_start}

-- the same bytes, whichever are put together first
regrouped : (begin space phrase end type stated kept body : List ℕ)
    → begin ++ (space ++ phrase ++ end ++ type) ++ stated ++ kept ++ end ++ body
    ≡ begin ++ space ++ phrase ++ end ++ (type ++ (stated ++ kept)) ++ end ++ body
regrouped begin space phrase end type stated kept body = simp append_assoc refl

-- the text of a reply of 200 with this type, and with these further fields
abbrev pub text_with : List ℕ → List ℕ → List ℕ
text_with lines body =
    codes "HTTP/1.1 " ++ decimal 200 ++ codes " " ++ phrase 200 ++ line_end ++ (field_line (content_type (codes "text/plain")) ++ lines) ++ line_end ++ body

with_fields : (stated kept : List Header) (body : List ℕ)
    → head_start ++ field_lines stated ++ field_lines kept ++ line_end ++ body ≡ text_with (field_lines (stated ++ kept)) body
unfolding head_start phrase field_line
with_fields stated kept body =
    regrouped (codes "HTTP/1.1 " ++ decimal 200) (codes " ") (phrase 200) line_end (field_line (content_type (codes "text/plain"))) (field_lines stated) (field_lines kept) body
    ∙ ap (λ lines. text_with lines body) (sym (flat_map-append field_line stated kept))

-- the begin, and then the rest
pub echo_text_is : (message : List ℕ) (bodiless : Bool) (keeping : Keeping)
    → head_start ++ field_lines (stated_length (not bodiless) message) ++ field_lines (keeping_fields keeping) ++ line_end ++ (if not bodiless then message else [])
    ≡ reply_text (reply_of (Answered (echo_of message))) bodiless keeping
echo_text_is message true keeping = with_fields [] (keeping_fields keeping) []
echo_text_is message false keeping = with_fields (stated_length true message) (keeping_fields keeping) message
