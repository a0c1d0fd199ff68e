mod RecordOk
