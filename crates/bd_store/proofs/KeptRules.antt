-- The rules of the store that an entry keeps, one after another.
use Rattle.bd_entry.specs.declared.entry.Entry.{Entry}
use Rattle.bd_entry.specs.declared.entry.Entry.TheVariants.{Access}
use Rattle.bd_entry.specs.Calls.{Place}
use Rattle.bd_entry.specs.Rules.{Allowed, IsOpen, NoPlain, NotRefused, RightBlock, RightBytes, RightFile, RightWay, Rights, WithinLimit}
use Rattle.bd_entry.specs.RulesOfContents.{HasRightBlock, HasRightBytes, HasRightReason, IsWithinLimit}
use Rattle.bd_entry.specs.RulesOfRights.{HasNoPlain, HasRightDescriptor, HasRightFile, HasRightWay, HasRights, IsAllowed}
use Rattle.bd_entry.specs.Store.{Store}
use Rattle.bd_store.specs.Kept.{Kept, bare}
use Rattle.bd_store.specs.Kinds.{IsBlockOf}
use Rattle.bd_store.proofs.Decisions.{KeptTo, kept_first, kept_more}

-- an access on the right block is on the one that its file has at that index
pub block-is : (k : Kept) (p : Place) (e : Entry) → HasRightBlock (bare k) p e → IsBlockOf k.files e
block-is k p (Access at piece fd file index block range wrote way bytes) right = right
block-is k p e right = tt

-- all rules up to each one are kept
module _ (s : Store) (p : Place) (e : Entry) where
  module _ (way : HasRightWay s p e) where
    pub to_way : KeptTo s p e 5
    to_way = kept_more s p e RightWay (kept_first s p e) way

    module _ (descriptor : HasRightDescriptor s p e) where
      pub to_descriptor : KeptTo s p e 6
      to_descriptor = kept_more s p e IsOpen to_way descriptor

      module _ (file : HasRightFile s p e) where
        pub to_file : KeptTo s p e 7
        to_file = kept_more s p e RightFile to_descriptor file

        module _ (policy : IsAllowed s p e) where
          pub to_policy : KeptTo s p e 8
          to_policy = kept_more s p e Allowed to_file policy

          module _ (rights : HasRights s p e) where
            pub to_rights : KeptTo s p e 9
            to_rights = kept_more s p e Rights to_policy rights

            module _ (plain : HasNoPlain s p e) where
              pub to_plain : KeptTo s p e 10
              to_plain = kept_more s p e NoPlain to_rights plain

              module _ (block : HasRightBlock s p e) where
                pub to_block : KeptTo s p e 11
                to_block = kept_more s p e RightBlock to_plain block

                module _ (limit : IsWithinLimit s p e) where
                  pub to_limit : KeptTo s p e 12
                  to_limit = kept_more s p e WithinLimit to_block limit

                  module _ (bytes : HasRightBytes s p e) where
                    pub to_bytes : KeptTo s p e 13
                    to_bytes = kept_more s p e RightBytes to_limit bytes

                    module _ (reason : HasRightReason s p e) where
                      pub to_reason : KeptTo s p e 14
                      to_reason = kept_more s p e NotRefused to_bytes reason
