-- The line that a reply is written as. The keys of each object stand in the order of their bytes.
use Rattle.std.specs.Prelude.{ℕ, List, Bool, true, false, codes, map}
use Rattle.std.specs.Str.{encode_utf8_all}
use Rattle.serde_json.specs.Data.{Data, boolean, number, unsigned, string, array, object, no_items, item, no_members, member}
use Rattle.serde_json.specs.View.{items_of}
use Rattle.serde_json.specs.Written.{compact_text}
use Rattle.flow_base.specs.declared.kinds.Kind.{Kind}
use Rattle.flow_base.specs.declared.kinds.Kind.TheVariants.{Callee, Base, Name}
use Rattle.flow_base.specs.declared.kinds.SyntaxKind.{SyntaxKind}
use Rattle.flow_base.specs.declared.kinds.SyntaxKind.TheVariants as syntax
use Rattle.flow_wire.specs.declared.reply.EndText.{EndText}
use Rattle.flow_wire.specs.declared.reply.EndText.TheVariants as end
use Rattle.flow_wire.specs.declared.reply.MarkText.{MarkText}
use Rattle.flow_wire.specs.declared.reply.MarkText.TheVariants.{Clean, Stale, Unknown, Form as form_of_run}
use Rattle.flow_wire.specs.declared.reply.EventKind.{EventKind}
use Rattle.flow_wire.specs.declared.reply.EventKind.TheVariants as event
use Rattle.flow_wire.specs.declared.reply.Reply.{Reply}
use Rattle.flow_wire.specs.declared.reply.Reply.TheVariants.{Edited, Ran, Shown, Event, NoCell, BadSteps, Form, Syntax}

-- ---- names

abbrev pub event_kind_name : EventKind → List ℕ
event_kind_name event.Long = codes "long"
event_kind_name event.Utf8 = codes "utf8"
event_kind_name event.Json = codes "json"
event_kind_name event.Shape = codes "shape"

abbrev pub kind_name : Kind → List ℕ
kind_name Callee = codes "callee"
kind_name Base = codes "base"
kind_name Name = codes "name"

abbrev pub syntax_kind_name : SyntaxKind → List ℕ
syntax_kind_name syntax.Lex = codes "lex"
syntax_kind_name syntax.Layout = codes "layout"
syntax_kind_name syntax.Unsupported = codes "unsupported"
syntax_kind_name syntax.Limit = codes "limit"
syntax_kind_name syntax.Syntax = codes "syntax"
syntax_kind_name syntax.Scope = codes "scope"

-- ---- parts of a reply

abbrev pub count_data : ℕ → Data
count_data n = number (unsigned n)

-- code points as a text
abbrev pub text_data : List ℕ → Data
text_data t = string (encode_utf8_all t)

-- [T..]
abbrev pub texts_data : List (List ℕ) → Data
texts_data ts = array (items_of (map text_data ts))

-- "ok", {"raised":NAME}, "steps" or "range"
abbrev pub end_data : EndText → Data
end_data end.Ok = string (codes "ok")
end_data (end.Raised name) = object (member (codes "raised") (text_data name) no_members)
end_data end.Steps = string (codes "steps")
end_data end.Range = string (codes "range")

-- {"unknown":{"kind":K,"node":[RUN,NODE]}}
abbrev pub unknown_data : List ℕ → ℕ → ℕ → Data
unknown_data kind run node = object (member (codes "unknown") (object
    (member (codes "kind") (string kind)
    (member (codes "node") (array (item (count_data run) (item (count_data node) no_items)))
    no_members))) no_members)

-- "clean", {"stale":{"computed":N,"dep":P,"overwritten":M,"symbol":P}} or an unknown node
abbrev pub mark_data : MarkText → Data
mark_data Clean = string (codes "clean")
mark_data (Stale computed dep overwritten symbol) = object (member (codes "stale") (object
    (member (codes "computed") (count_data computed)
    (member (codes "dep") (text_data dep)
    (member (codes "overwritten") (count_data overwritten)
    (member (codes "symbol") (text_data symbol)
    no_members))))) no_members)
mark_data (Unknown unknown) = unknown_data (kind_name unknown.kind) unknown.run unknown.node
mark_data (form_of_run run) = unknown_data (codes "form") run 1

-- ---- the reply

abbrev pub reply_data : Reply → Data
reply_data (Edited cell) = object (member (codes "cell") (text_data cell) (member (codes "edited") (boolean true) no_members))
reply_data (Ran cell end mark out run stale) = object
    (member (codes "cell") (text_data cell)
    (member (codes "end") (end_data end)
    (member (codes "mark") (mark_data mark)
    (member (codes "out") (text_data out)
    (member (codes "run") (count_data run)
    (member (codes "stale") (texts_data stale)
    no_members))))))
reply_data (Shown cell text) = object (member (codes "cell") (text_data cell) (member (codes "text") (text_data text) no_members))
reply_data (Event kind) = object (member (codes "kind") (string (event_kind_name kind)) (member (codes "refused") (string (codes "event")) no_members))
reply_data NoCell = object (member (codes "refused") (string (codes "no cell")) no_members)
reply_data BadSteps = object (member (codes "refused") (string (codes "steps")) no_members)
reply_data Form = object (member (codes "refused") (string (codes "form")) no_members)
reply_data (Syntax kind line) = object
    (member (codes "kind") (string (syntax_kind_name kind))
    (member (codes "line") (count_data line)
    (member (codes "refused") (string (codes "syntax"))
    no_members)))

-- without the line feed
abbrev pub reply_text : Reply → List ℕ
reply_text r = compact_text (reply_data r)

-- the reply refuses its line
abbrev pub is_refusal : Reply → Bool
is_refusal (Edited cell) = false
is_refusal (Ran cell end mark out run stale) = false
is_refusal (Shown cell text) = false
is_refusal (Event kind) = true
is_refusal NoCell = true
is_refusal BadSteps = true
is_refusal Form = true
is_refusal (Syntax kind line) = true
