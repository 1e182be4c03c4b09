use Rattle.std.proofs.Common.{◌≡◌, ℕ, List, [], ◌∷◌, ◌++◌, map, take, sym, ap, ◌∙◌, append_assoc, rules}
use Rattle.std.proofs.lemmas.Grind.{common_steps}
use Rattle.std.specs.List.{flat_map}
use Rattle.bd_blocks.specs.declared.text.TheConstants.{LF}
use Rattle.bd_script.proofs.LineLists.{flat-more, lines-step, lines_text-append, made-more}
use Rattle.bd_script.specs.Texts.{Form, form_text, header, lines_text, process_lines, schedule_line}
use Rattle.bd_script.proofs.printer.print_script.Goals as goal

pub loop-process-preserved : goal.loop-process-preserved
loop-process-preserved c =
    let processes = c.args.script.now.processes in
    let i = c.loop-process.process-index in
    let process = c.process-item.result in
    let so_far : List Form = flat_map process_lines (take i processes) in
    let pushed : c.push_process.new.text.items ≡ c.loop-process.text.items ++ lines_text (process_lines process) = search (rules, common_steps) in
    pushed ∙ ap (λ (l : List ℕ). l ++ lines_text (process_lines process)) c.loop-process.invariant
    ∙ ap (λ (l : List ℕ). header ++ LF ∷ l) (sym (lines_text-append so_far (process_lines process)) ∙ ap lines_text
    (sym (flat-more process_lines processes i process (search (rules, common_steps)) (search (rules, common_steps)))))

pub loop-line-preserved : goal.loop-line-preserved
loop-line-preserved c =
    let schedule = c.args.script.now.schedule in
    let i = c.loop-line.line-index in
    let line = c.line-item.result in
    let before : List Form = flat_map process_lines c.args.script.now.processes in
    let so_far : List Form = map schedule_line (take i schedule) in
    let pushed : c.push_schedule.new.text.items ≡ c.loop-line.text.items ++ (form_text (schedule_line line) ++ LF ∷ []) = search (rules, common_steps) in
    let step = lines-step (header ++ LF ∷ []) (before ++ so_far) (schedule_line line) in
    pushed ∙ ap (λ (l : List ℕ). l ++ (form_text (schedule_line line) ++ LF ∷ [])) c.loop-line.invariant
    ∙ sym (append_assoc (header ++ LF ∷ lines_text (before ++ so_far)) (form_text (schedule_line line)) (LF ∷ []))
    ∙ step
    ∙ ap (λ (l : List Form). header ++ LF ∷ lines_text l)
    (append_assoc before so_far (schedule_line line ∷ []) ∙ ap (λ (l : List Form). before ++ l)
    (sym (made-more schedule_line schedule i line (search (rules, common_steps)) (search (rules, common_steps)))))
