-- Logs that show what the marks say, with the replies that they get.
use Rattle.std.specs.Prelude.{ℕ, List, ◌++◌, take, codes}
use Rattle.flow_base.specs.Lines.{lines_of}
use Rattle.kernel_core.specs.declared.accepted.Accepted.{Accepted}
use Rattle.kernel_core.specs.Kernel.{new_kernel}
use Rattle.kernel_cli.specs.Output.{kernel_after}
use Rattle.kernel_cli.specs.declared.words.TheConstants.{DEFAULT_STEPS}

-- what was accepted of the first n lines of a log
abbrev pub accepted_of : List ℕ → ℕ → List Accepted
accepted_of log n = (kernel_after (new_kernel DEFAULT_STEPS) (take n (lines_of log))).log

-- ---- cell b uses the name that cell a wrote

abbrev pub clean_log : List ℕ
clean_log =
    codes "{\"event\":\"edit\",\"cell\":\"a\",\"text\":\"x = 1\"}\n"
    ++ codes "{\"event\":\"run\",\"cell\":\"a\"}\n"
    ++ codes "{\"event\":\"edit\",\"cell\":\"b\",\"text\":\"y = x\"}\n"
    ++ codes "{\"event\":\"run\",\"cell\":\"b\"}\n"

abbrev pub clean_replies : List ℕ
clean_replies =
    codes "{\"cell\":\"a\",\"edited\":true}\n"
    ++ codes "{\"cell\":\"a\",\"end\":\"ok\",\"mark\":\"clean\",\"out\":\"\",\"run\":1,\"stale\":[]}\n"
    ++ codes "{\"cell\":\"b\",\"edited\":true}\n"
    ++ codes "{\"cell\":\"b\",\"end\":\"ok\",\"mark\":\"clean\",\"out\":\"\",\"run\":2,\"stale\":[]}\n"

-- ---- then cell a is run again, and cell c uses the name that cell b wrote

abbrev pub stale_log : List ℕ
stale_log = clean_log
    ++ codes "{\"event\":\"run\",\"cell\":\"a\"}\n"
    ++ codes "{\"event\":\"edit\",\"cell\":\"c\",\"text\":\"z = y\"}\n"
    ++ codes "{\"event\":\"run\",\"cell\":\"c\"}\n"

abbrev pub stale_replies : List ℕ
stale_replies = clean_replies
    ++ codes "{\"cell\":\"a\",\"end\":\"ok\",\"mark\":\"clean\",\"out\":\"\",\"run\":3,\"stale\":[]}\n"
    ++ codes "{\"cell\":\"c\",\"edited\":true}\n"
    ++ codes "{\"cell\":\"c\",\"end\":\"ok\",\"mark\":{\"stale\":{\"computed\":2,\"dep\":\"x\",\"overwritten\":3,\"symbol\":\"y\"}},\"out\":\"\",\"run\":4,\"stale\":[\"y\"]}\n"
