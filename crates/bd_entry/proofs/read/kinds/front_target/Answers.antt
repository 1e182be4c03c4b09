use Rattle.bd_entry.specs.Reading.{bounds}
use Rattle.bd_entry.proofs.EntryKinds.{HasFront, HasIndex, target-no_block, target-no_direction, target-no_fd, target-no_file, target-no_index, target-no_range, target-no_way}
use Rattle.bd_entry.proofs.read.kinds.front_target.Goals as goal

pub returns-in_err-fd-clause-none : goal.returns-in_err-fd-clause-none
returns-in_err-fd-clause-none c =
    rw c.from_residual-in_err-fd.ensures
    (target-no_fd c.in_ok-piece.piece c.args.text.now c.in_ok-piece.rest.now c.in_ok-piece.ensures.some c.in_err-fd.ensures.none)

pub returns-in_err-file-clause-none : goal.returns-in_err-file-clause-none
returns-in_err-file-clause-none c =
    let front : HasFront c.args.text.now = record {
      piece = c.in_ok-piece.piece;
      fd = c.in_ok-fd.fd;
      after_piece = c.in_ok-piece.rest.now;
      after_fd = c.in_ok-fd.rest.now;
      has_piece = c.in_ok-piece.ensures.some;
      has_fd = c.in_ok-fd.ensures.some;
    } in
    rw c.from_residual-in_err-file.ensures (target-no_file c.args.text.now front c.in_err-file.ensures.none)

pub returns-in_err-index-clause-none : goal.returns-in_err-index-clause-none
returns-in_err-index-clause-none c =
    let front : HasFront c.args.text.now = record {
      piece = c.in_ok-piece.piece;
      fd = c.in_ok-fd.fd;
      after_piece = c.in_ok-piece.rest.now;
      after_fd = c.in_ok-fd.rest.now;
      has_piece = c.in_ok-piece.ensures.some;
      has_fd = c.in_ok-fd.ensures.some;
    } in
    rw c.from_residual-in_err-index.ensures
    (target-no_index c.args.text.now front c.in_ok-file.file c.in_ok-file.rest.now c.in_ok-file.ensures.some c.in_err-index.ensures.none)

pub returns-in_default-clause-none : goal.returns-in_default-clause-none
returns-in_default-clause-none c =
    let front : HasFront c.args.text.now = record {
      piece = c.in_ok-piece.piece;
      fd = c.in_ok-fd.fd;
      after_piece = c.in_ok-piece.rest.now;
      after_fd = c.in_ok-fd.rest.now;
      has_piece = c.in_ok-piece.ensures.some;
      has_fd = c.in_ok-fd.ensures.some;
    } in
    let index : HasIndex c.in_ok-fd.rest.now = record {
      file = c.in_ok-file.file;
      index = c.in_ok-index.index;
      after_file = c.in_ok-file.rest.now;
      after_index = c.in_ok-index.rest.now;
      has_file = c.in_ok-file.ensures.some;
      has_index = c.in_ok-index.ensures.some;
    } in
    target-no_block c.args.text.now front index c.in_default.ensures.none

pub returns-in_err-range-clause-none : goal.returns-in_err-range-clause-none
returns-in_err-range-clause-none c =
    let front : HasFront c.args.text.now = record {
      piece = c.in_ok-piece.piece;
      fd = c.in_ok-fd.fd;
      after_piece = c.in_ok-piece.rest.now;
      after_fd = c.in_ok-fd.rest.now;
      has_piece = c.in_ok-piece.ensures.some;
      has_fd = c.in_ok-fd.ensures.some;
    } in
    let index : HasIndex c.in_ok-fd.rest.now = record {
      file = c.in_ok-file.file;
      index = c.in_ok-index.index;
      after_file = c.in_ok-file.rest.now;
      after_index = c.in_ok-index.rest.now;
      has_file = c.in_ok-file.ensures.some;
      has_index = c.in_ok-index.ensures.some;
    } in
    rw c.from_residual-in_err-range.ensures
    (target-no_range c.args.text.now front index c.in-Some.block c.in-Some.rest.now c.in-Some.ensures.some c.in_err-range.ensures.none)

pub returns-in_err-wrote-clause-none : goal.returns-in_err-wrote-clause-none
returns-in_err-wrote-clause-none c =
    let front : HasFront c.args.text.now = record {
      piece = c.in_ok-piece.piece;
      fd = c.in_ok-fd.fd;
      after_piece = c.in_ok-piece.rest.now;
      after_fd = c.in_ok-fd.rest.now;
      has_piece = c.in_ok-piece.ensures.some;
      has_fd = c.in_ok-fd.ensures.some;
    } in
    let index : HasIndex c.in_ok-fd.rest.now = record {
      file = c.in_ok-file.file;
      index = c.in_ok-index.index;
      after_file = c.in_ok-file.rest.now;
      after_index = c.in_ok-index.rest.now;
      has_file = c.in_ok-file.ensures.some;
      has_index = c.in_ok-index.ensures.some;
    } in
    rw c.from_residual-in_err-wrote.ensures
    (target-no_direction c.args.text.now front index c.in-Some.block
    (bounds c.in_ok-range.range.lo c.in_ok-range.range.hi) c.in-Some.rest.now c.in_ok-range.range.rest.now
    c.in-Some.ensures.some c.in_ok-range.ensures.some c.in_err-wrote.ensures.none)

pub returns-in_err-way-clause-none : goal.returns-in_err-way-clause-none
returns-in_err-way-clause-none c =
    let front : HasFront c.args.text.now = record {
      piece = c.in_ok-piece.piece;
      fd = c.in_ok-fd.fd;
      after_piece = c.in_ok-piece.rest.now;
      after_fd = c.in_ok-fd.rest.now;
      has_piece = c.in_ok-piece.ensures.some;
      has_fd = c.in_ok-fd.ensures.some;
    } in
    let index : HasIndex c.in_ok-fd.rest.now = record {
      file = c.in_ok-file.file;
      index = c.in_ok-index.index;
      after_file = c.in_ok-file.rest.now;
      after_index = c.in_ok-index.rest.now;
      has_file = c.in_ok-file.ensures.some;
      has_index = c.in_ok-index.ensures.some;
    } in
    rw c.from_residual-in_err-way.ensures
    (target-no_way c.args.text.now front index c.in-Some.block (bounds c.in_ok-range.range.lo c.in_ok-range.range.hi) c.in_ok-wrote.wrote c.in-Some.rest.now
    c.in_ok-range.range.rest.now c.in_ok-wrote.rest.now c.in-Some.ensures.some c.in_ok-range.ensures.some c.in_ok-wrote.ensures.some
    c.in_err-way.ensures.none)
