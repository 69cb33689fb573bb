mod Remarks
