use Rattle.std.proofs.Common.{[]}
use Rattle.bd_entry.specs.Calls.{Place, at_of}
use Rattle.bd_entry.specs.Rules.{Allowed, IsOpen, NoPlain, NotRefused, RightBlock, RightBytes, RightFile, RightWay, Rights, WithinLimit, place_in}
use Rattle.bd_store.specs.Kept.{bare, store_of}
use Rattle.bd_store.proofs.Decisions.{all_kept, answered_no, breaks, kept_first}
use Rattle.bd_store.proofs.KeptRules.{block-is, to_way, to_descriptor, to_file, to_policy, to_rights, to_plain, to_block, to_limit, to_bytes, to_reason}
use Rattle.bd_store.proofs.store.PlainStore.broken_rule.Goals as goal

pub returns-then-not-has_right_way : goal.returns-then-not-has_right_way
returns-then-not-has_right_way c = λ work marked.
    let s = store_of c.args.self.now work in
    let e = c.args.entry.now in
    let p = place_in s c.args.call.now (at_of e) in
    breaks s p e RightWay (kept_first s p e)
    (answered_no c.has_right_way.result (c.has_right_way.ensures work marked) c.if-not-has_right_way.true)

pub returns-then-not-has_right_descriptor : goal.returns-then-not-has_right_descriptor
returns-then-not-has_right_descriptor c = λ work marked.
    let s = store_of c.args.self.now work in
    let e = c.args.entry.now in
    let p = place_in s c.args.call.now (at_of e) in
    let way = (c.has_right_way.ensures work marked).0 c.if-not-has_right_way.false in
    breaks s p e IsOpen (to_way s p e way)
    (answered_no c.has_right_descriptor.result (c.has_right_descriptor.ensures work marked) c.if-not-has_right_descriptor.true)

pub returns-then-not-has_right_file : goal.returns-then-not-has_right_file
returns-then-not-has_right_file c = λ work marked.
    let s = store_of c.args.self.now work in
    let e = c.args.entry.now in
    let p = place_in s c.args.call.now (at_of e) in
    let way = (c.has_right_way.ensures work marked).0 c.if-not-has_right_way.false in
    let descriptor = (c.has_right_descriptor.ensures work marked).0 c.if-not-has_right_descriptor.false in
    breaks s p e RightFile (to_descriptor s p e way descriptor)
    (answered_no c.has_right_file.result (c.has_right_file.ensures work marked) c.if-not-has_right_file.true)

pub returns-then-not-is_allowed : goal.returns-then-not-is_allowed
returns-then-not-is_allowed c = λ work marked.
    let s = store_of c.args.self.now work in
    let e = c.args.entry.now in
    let p = place_in s c.args.call.now (at_of e) in
    let way = (c.has_right_way.ensures work marked).0 c.if-not-has_right_way.false in
    let descriptor = (c.has_right_descriptor.ensures work marked).0 c.if-not-has_right_descriptor.false in
    let file = (c.has_right_file.ensures work marked).0 c.if-not-has_right_file.false in
    breaks s p e Allowed (to_file s p e way descriptor file)
    (answered_no c.is_allowed.result (c.is_allowed.ensures c.args.call.now work marked) c.if-not-is_allowed.true)

pub returns-then-not-has_rights : goal.returns-then-not-has_rights
returns-then-not-has_rights c = λ work marked.
    let s = store_of c.args.self.now work in
    let e = c.args.entry.now in
    let p = place_in s c.args.call.now (at_of e) in
    let way = (c.has_right_way.ensures work marked).0 c.if-not-has_right_way.false in
    let descriptor = (c.has_right_descriptor.ensures work marked).0 c.if-not-has_right_descriptor.false in
    let file = (c.has_right_file.ensures work marked).0 c.if-not-has_right_file.false in
    let policy = (c.is_allowed.ensures c.args.call.now work marked).0 c.if-not-is_allowed.false in
    breaks s p e Rights (to_policy s p e way descriptor file policy)
    (answered_no c.has_rights.result (c.has_rights.ensures work marked) c.if-not-has_rights.true)

pub returns-then-not-has_no_plain : goal.returns-then-not-has_no_plain
returns-then-not-has_no_plain c = λ work marked.
    let s = store_of c.args.self.now work in
    let e = c.args.entry.now in
    let p = place_in s c.args.call.now (at_of e) in
    let way = (c.has_right_way.ensures work marked).0 c.if-not-has_right_way.false in
    let descriptor = (c.has_right_descriptor.ensures work marked).0 c.if-not-has_right_descriptor.false in
    let file = (c.has_right_file.ensures work marked).0 c.if-not-has_right_file.false in
    let policy = (c.is_allowed.ensures c.args.call.now work marked).0 c.if-not-is_allowed.false in
    let rights = (c.has_rights.ensures work marked).0 c.if-not-has_rights.false in
    breaks s p e NoPlain (to_rights s p e way descriptor file policy rights)
    (answered_no c.has_no_plain.result (c.has_no_plain.ensures c.args.call.now work marked) c.if-not-has_no_plain.true)

pub returns-then-not-has_right_block : goal.returns-then-not-has_right_block
returns-then-not-has_right_block c = λ work marked.
    let s = store_of c.args.self.now work in
    let e = c.args.entry.now in
    let p = place_in s c.args.call.now (at_of e) in
    let way = (c.has_right_way.ensures work marked).0 c.if-not-has_right_way.false in
    let descriptor = (c.has_right_descriptor.ensures work marked).0 c.if-not-has_right_descriptor.false in
    let file = (c.has_right_file.ensures work marked).0 c.if-not-has_right_file.false in
    let policy = (c.is_allowed.ensures c.args.call.now work marked).0 c.if-not-is_allowed.false in
    let rights = (c.has_rights.ensures work marked).0 c.if-not-has_rights.false in
    let plain = (c.has_no_plain.ensures c.args.call.now work marked).0 c.if-not-has_no_plain.false in
    breaks s p e RightBlock (to_plain s p e way descriptor file policy rights plain)
    (answered_no c.has_right_block.result (c.has_right_block.ensures work p) c.if-not-has_right_block.true)

pub returns-then-not-is_within_limit : goal.returns-then-not-is_within_limit
returns-then-not-is_within_limit c = λ work marked.
    let s = store_of c.args.self.now work in
    let e = c.args.entry.now in
    let p = place_in s c.args.call.now (at_of e) in
    let way = (c.has_right_way.ensures work marked).0 c.if-not-has_right_way.false in
    let descriptor = (c.has_right_descriptor.ensures work marked).0 c.if-not-has_right_descriptor.false in
    let file = (c.has_right_file.ensures work marked).0 c.if-not-has_right_file.false in
    let policy = (c.is_allowed.ensures c.args.call.now work marked).0 c.if-not-is_allowed.false in
    let rights = (c.has_rights.ensures work marked).0 c.if-not-has_rights.false in
    let plain = (c.has_no_plain.ensures c.args.call.now work marked).0 c.if-not-has_no_plain.false in
    let block = (c.has_right_block.ensures work p).0 c.if-not-has_right_block.false in
    breaks s p e WithinLimit (to_block s p e way descriptor file policy rights plain block)
    (answered_no c.is_within_limit.result (c.is_within_limit.ensures work marked) c.if-not-is_within_limit.true)

pub has_right_bytes-requires-clause-block : goal.has_right_bytes-requires-clause-block
has_right_bytes-requires-clause-block c =
    let e = c.args.entry.now in
    let p : Place = place_in (bare c.args.self.now) c.args.call.now (at_of e) in
    block-is c.args.self.now p e ((c.has_right_block.ensures [] p).0 c.if-not-has_right_block.false)

pub returns-then-not-has_right_bytes : goal.returns-then-not-has_right_bytes
returns-then-not-has_right_bytes c = λ work marked.
    let s = store_of c.args.self.now work in
    let e = c.args.entry.now in
    let p = place_in s c.args.call.now (at_of e) in
    let way = (c.has_right_way.ensures work marked).0 c.if-not-has_right_way.false in
    let descriptor = (c.has_right_descriptor.ensures work marked).0 c.if-not-has_right_descriptor.false in
    let file = (c.has_right_file.ensures work marked).0 c.if-not-has_right_file.false in
    let policy = (c.is_allowed.ensures c.args.call.now work marked).0 c.if-not-is_allowed.false in
    let rights = (c.has_rights.ensures work marked).0 c.if-not-has_rights.false in
    let plain = (c.has_no_plain.ensures c.args.call.now work marked).0 c.if-not-has_no_plain.false in
    let block = (c.has_right_block.ensures work p).0 c.if-not-has_right_block.false in
    let limit = (c.is_within_limit.ensures work marked).0 c.if-not-is_within_limit.false in
    breaks s p e RightBytes (to_limit s p e way descriptor file policy rights plain block limit)
    (answered_no c.has_right_bytes.result (c.has_right_bytes.ensures work marked) c.if-not-has_right_bytes.true)

pub returns-then-not-has_right_reason : goal.returns-then-not-has_right_reason
returns-then-not-has_right_reason c = λ work marked.
    let s = store_of c.args.self.now work in
    let e = c.args.entry.now in
    let p = place_in s c.args.call.now (at_of e) in
    let way = (c.has_right_way.ensures work marked).0 c.if-not-has_right_way.false in
    let descriptor = (c.has_right_descriptor.ensures work marked).0 c.if-not-has_right_descriptor.false in
    let file = (c.has_right_file.ensures work marked).0 c.if-not-has_right_file.false in
    let policy = (c.is_allowed.ensures c.args.call.now work marked).0 c.if-not-is_allowed.false in
    let rights = (c.has_rights.ensures work marked).0 c.if-not-has_rights.false in
    let plain = (c.has_no_plain.ensures c.args.call.now work marked).0 c.if-not-has_no_plain.false in
    let block = (c.has_right_block.ensures work p).0 c.if-not-has_right_block.false in
    let limit = (c.is_within_limit.ensures work marked).0 c.if-not-is_within_limit.false in
    let bytes = (c.has_right_bytes.ensures work marked).0 c.if-not-has_right_bytes.false in
    breaks s p e NotRefused (to_bytes s p e way descriptor file policy rights plain block limit bytes)
    (answered_no c.has_right_reason.result (c.has_right_reason.ensures work marked) c.if-not-has_right_reason.true)

pub returns : goal.returns
returns c = λ work marked.
    let s = store_of c.args.self.now work in
    let e = c.args.entry.now in
    let p = place_in s c.args.call.now (at_of e) in
    let way = (c.has_right_way.ensures work marked).0 c.if-not-has_right_way.false in
    let descriptor = (c.has_right_descriptor.ensures work marked).0 c.if-not-has_right_descriptor.false in
    let file = (c.has_right_file.ensures work marked).0 c.if-not-has_right_file.false in
    let policy = (c.is_allowed.ensures c.args.call.now work marked).0 c.if-not-is_allowed.false in
    let rights = (c.has_rights.ensures work marked).0 c.if-not-has_rights.false in
    let plain = (c.has_no_plain.ensures c.args.call.now work marked).0 c.if-not-has_no_plain.false in
    let block = (c.has_right_block.ensures work p).0 c.if-not-has_right_block.false in
    let limit = (c.is_within_limit.ensures work marked).0 c.if-not-is_within_limit.false in
    let bytes = (c.has_right_bytes.ensures work marked).0 c.if-not-has_right_bytes.false in
    let reason = (c.has_right_reason.ensures work marked).0 c.if-not-has_right_reason.false in
    all_kept s p e (to_reason s p e way descriptor file policy rights plain block limit bytes reason)
