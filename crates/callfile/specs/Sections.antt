-- "The call file has three sections in a fixed order, each after its count: the six settings, texts (length line, then bytes), calls."
use Rattle.std.specs.Prelude.{ℕ, zero, suc, Option, Some, None, ◌+◌, ◌≤◌, List, cond, ltb, eqb, length, get_or, set, replicate}
use Rattle.cursor.specs.Cursor.{mark_at, on_some}
use Rattle.cursor.specs.declared.Cursor.{Cursor}
use Rattle.frame.specs.Frame.{number_at, number_line, text_at, numbers_at}
use Rattle.frame.specs.declared.Span.{Span}
use Rattle.flow.specs.declared.Settings.{Settings}
use Rattle.callfile.specs.declared.CallFile.{CallFile}
use Rattle.callfile.specs.declared.spans.Texts.{Texts}
use Rattle.callfile.specs.Ask.{lf, no_span, calls_good}

-- "at most 49,152 bytes and 64 texts"
abbrev pub most_file : ℕ
most_file = 49152

abbrev pub most_texts : ℕ
most_texts = 64

-- each figure fits 32 bits
abbrev pub AllSmall : List ℕ → Type 0
AllSmall figures = (j : ℕ) → get_or figures j 0 ≤ 4294967295

-- "media default up and down, RTCP default up and down, pool up and down"
unfoldable pub settings_of : List ℕ → Settings
settings_of figures =
    record {
      media = record { up = get_or figures 0 0; down = get_or figures 1 0 };
      rtcp = record { up = get_or figures 2 0; down = get_or figures 3 0 };
      pool = record { up = get_or figures 4 0; down = get_or figures 5 0 };
    }

-- the count 6, and each of the six behind an LF
unfoldable pub settings_at : List ℕ → Option (Settings × Cursor)
settings_at s =
    on_some (number_at s 0) None λ (count, p).
    cond (eqb count 6)
    (on_some (numbers_at s p.at 6 lf) None λ (figures, q).
    on_some (mark_at s q.at lf) None λ r.
    Some (settings_of figures, r))
    None

-- no text yet: all zeros
abbrev pub no_spans : List Span
no_spans = replicate most_texts no_span

abbrev pub no_texts : Texts
no_texts = record { count = 0; spans = no_spans }

-- with one text more
abbrev pub pushed : Texts → Span → Texts
pushed texts span = record { count = texts.count + 1; spans = set texts.spans texts.count span }

-- k texts more
unfoldable pub texts_from : ℕ → List ℕ → ℕ → Texts → Option (Texts × Cursor)
texts_from zero s at texts = Some (texts, record { at = at })
texts_from (suc k) s at texts =
    on_some (text_at s at) None λ span.
    texts_from k s span.end (pushed texts span)

-- "at most .. 64 texts"
unfoldable pub texts_at : List ℕ → ℕ → Option (Texts × Cursor)
texts_at s from =
    on_some (number_line s from) None λ (count, p).
    cond (ltb most_texts count) None
    (texts_from count s p.at no_texts)

-- "the file has at most 49,152 bytes and 64 texts, and nothing after the last call"
abbrev pub file_of : Settings → Texts → ℕ → Cursor → CallFile
file_of settings texts calls at = record { settings = settings; texts = texts; calls = calls; at = at }

unfoldable pub calls_in : List ℕ → Settings → Texts → ℕ → Option CallFile
calls_in s settings texts at =
    on_some (number_line s at) None λ (calls, p).
    cond (calls_good calls s texts.count p.at)
    (Some (file_of settings texts calls p))
    None

unfoldable pub read_file : List ℕ → Option CallFile
read_file s =
    cond (ltb most_file (length s)) None
    (on_some (settings_at s) None λ (settings, p).
    on_some (texts_at s p.at) None λ (texts, q).
    calls_in s settings texts q.at)
