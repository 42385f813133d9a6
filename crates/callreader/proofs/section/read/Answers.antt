use Rattle.cursor.proofs.Kit.{tests, lt_no, some_none, some_is}
use Rattle.callfile.specs.Sections.{calls_in, read_file}
use Rattle.callreader.proofs.section.read.Goals as goal

pub returns-then-s-gt49152 : goal.returns-then-s-gt49152
unfolding read_file
returns-then-s-gt49152 c = search tests

pub returns-in_err-settings : goal.returns-in_err-settings
unfolding read_file
returns-in_err-settings c =
    lt_no _ _ _ _ _ c.if-s-gt49152.false (some_none _ _ _ _ _ c.settings_at.ensures c.in_err-settings.was c.from_residual.ensures)

pub returns-in_err-texts : goal.returns-in_err-texts
unfolding read_file
returns-in_err-texts c =
    lt_no _ _ _ _ _ c.if-s-gt49152.false
    (some_is _ _ _ _ _ _ c.settings_at.ensures c.in_ok-settings.was
    (some_none _ _ _ _ _ c.texts_at.ensures c.in_err-texts.was c.from_residual-in_err-texts.ensures))

pub returns-in_err-calls : goal.returns-in_err-calls
unfolding read_file calls_in
returns-in_err-calls c =
    lt_no _ _ _ _ _ c.if-s-gt49152.false
    (some_is _ _ _ _ _ _ c.settings_at.ensures c.in_ok-settings.was
    (some_is _ _ _ _ _ _ c.texts_at.ensures c.in_ok-texts.was
    (some_none _ _ _ _ _ c.number_line.ensures c.in_err-calls.was c.from_residual-in_err-calls.ensures)))

pub returns-then-not-calls_good : goal.returns-then-not-calls_good
unfolding read_file calls_in
returns-then-not-calls_good c =
    lt_no _ _ _ _ _ c.if-s-gt49152.false
    (some_is _ _ _ _ _ _ c.settings_at.ensures c.in_ok-settings.was
    (some_is _ _ _ _ _ _ c.texts_at.ensures c.in_ok-texts.was
    (some_is _ _ _ _ _ _ c.number_line.ensures c.in_ok-calls.was (search tests))))

pub returns : goal.returns
unfolding read_file calls_in
returns c =
    lt_no _ _ _ _ _ c.if-s-gt49152.false
    (some_is _ _ _ _ _ _ c.settings_at.ensures c.in_ok-settings.was
    (some_is _ _ _ _ _ _ c.texts_at.ensures c.in_ok-texts.was
    (some_is _ _ _ _ _ _ c.number_line.ensures c.in_ok-calls.was (search tests))))
